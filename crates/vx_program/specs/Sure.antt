-- The bytes of a source and of a sink in memory.
use Rattle.std.specs.Prelude.{ℕ, List, drop}
use Rattle.vx_program.specs.declared.sure.SureSource.{SureSource}
use Rattle.vx_program.specs.declared.sure.SureSink.{SureSink}

-- the bytes still to come
abbrev pub source_left : SureSource → List ℕ
source_left s = drop s.at s.bytes

-- the bytes written
abbrev pub sink_bytes : SureSink → List ℕ
sink_bytes s = s.bytes.items
