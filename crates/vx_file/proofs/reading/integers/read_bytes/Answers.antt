use Rattle.std.proofs.Common.{◌≡◌, ◌∙◌, ℕ, ℤ, pos, List, map, Option, Some, sym, ap, subst}
use Rattle.vx_base.specs.declared.ptype.PType.TheVariants.{U8}
use Rattle.vx_codec.specs.FixedWidth.{raw_at}
use Rattle.vx_codec.specs.Format.{◌>>=◌}
use Rattle.vx_codec.specs.Lists.{repeated_at}
use Rattle.vx_codec.specs.Reads.{Fails}
use Rattle.vx_codec.proofs.Loops.{fails_bind, handed_on}
use Rattle.vx_spelling.specs.Fields.{integer}
use Rattle.vx_file.proofs.Words.{bytes_read}
use Rattle.vx_file.proofs.reading.integers.read_bytes.Goals as goal

abbrev seen : List ℕ × List ℕ → Option (List ℤ × List ℕ)
seen x = Some (map (λ b. pos b) x.0, x.1)

pub returns-in_err-items : goal.returns-in_err-items
returns-in_err-items c =
    let e = c.in_err-items.field-0.0 in
    let n = c.args.count in
    let bytes = c.args.bytes.now in
    let is = bytes_read n bytes (λ i. (c.type_inv.bytes i).fits) in
    let none : Fails e (raw_at n bytes >>= seen) = fails_bind e (raw_at n bytes) seen c.in_err-items.ensures.read in
    handed_on (λ x. (map (λ b. pos b) x.0, x.1.now)) c.from_residual.result e (repeated_at (integer U8).parse n bytes) c.from_residual.ensures.1
    (subst (λ (r : Option (List ℤ × List ℕ)). Fails e r) (sym is) none)

pub returns : goal.returns
returns c =
    let rest = c.in_ok-items.rest.now in
    let copied : c.from_vec.result ≡ c.in_ok-items.items.now = c.from_vec.ensures ∙ c.in_ok-from_slice.ensures.items in
    bytes_read c.args.count c.args.bytes.now (λ i. (c.type_inv.bytes i).fits)
    ∙ ap (λ (r : Option (List ℕ × List ℕ)). r >>= seen) c.in_ok-items.ensures.read
    ∙ (λ i. Some (map (λ b. pos b) (sym copied i), rest))
