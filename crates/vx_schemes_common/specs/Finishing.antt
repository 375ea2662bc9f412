-- The answer of a scheme without parts: its tree, or the column stays plain.
use Rattle.std.specs.Prelude.{Option, None, Some}
use Rattle.vx_model.specs.Tree.{Tree}
use Rattle.vx_scheme.specs.Meaning.{PlainSplit, kept, finished}

-- the tree, where there is one; else the column stays plain
abbrev pub finished_or_kept : Option Tree → PlainSplit
finished_or_kept None = kept
finished_or_kept (Some tree) = finished tree
