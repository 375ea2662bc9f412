-- What bytes spell, from the numbers that are read of them.
use Rattle.std.proofs.Common.{◌≡◌, ◌∙◌, ℕ, ◌≤◌, ◌^◌, List, Some, None, refl, sym, ap, arith, inl, ◌⊎◌}
use Rattle.std.proofs.lemmas.Bool.{ltb-true}
use Rattle.vx_base.specs.declared.ptype.PType.{PType}
use Rattle.vx_base.specs.PlainType.{ptype_number}
use Rattle.vx_codec.specs.Message.{IsWhole, ended}
use Rattle.vx_codec.proofs.FormatLaws.{some_is}
use Rattle.vx_codec.proofs.MessageLaws.{ended_whole, message_field_whole}
use Rattle.vx_metadata.specs.Numbers.{Numbers, numbers, three}
use Rattle.vx_metadata.proofs.NumbersLaws.{number_fits, numbers_delimited, numbers_whole, ptype_number_small, ptype_one}
use Rattle.vx_sparse.specs.declared.metadata.SparseMetadata.{SparseMetadata}
use Rattle.vx_sparse.specs.Metadata.{IsSpelled, NumbersFit, by_fields, message, spelling}

message_whole : IsWhole 0 message
message_whole = message_field_whole 0 0 1 numbers ended (omega arith) numbers_whole (ended_whole 0)

-- the numbers of a message
abbrev Held : Type 0
Held = Numbers × Unit {0}

abbrev numbers_of : SparseMetadata → Held
numbers_of m = (three m.len m.offset (ptype_number m.indices_ptype), tt)

-- what is spelled is read
spelled_read : (m : SparseMetadata) → NumbersFit m → message.parse (spelling m) ≡ Some (numbers_of m)
spelled_read m n =
    message_whole.round_trip (numbers_of m) (
      (numbers_delimited (numbers_of m).0, (number_fits m.len n.len, (number_fits m.offset n.offset, (number_fits (ptype_number m.indices_ptype) (omega (arith, ptype_number_small m.indices_ptype)), tt)))),
      tt,
    )

-- metadata with one spelling are one
pub spelled_one : (a b : SparseMetadata) → NumbersFit a → NumbersFit b → spelling a ≡ spelling b → a ≡ b
spelled_one a b h k e =
    let same : numbers_of a ≡ numbers_of b = some_is (numbers_of a) (numbers_of b) (sym (spelled_read a h) ∙ ap message.parse e ∙ spelled_read b k) in
    let l : a.len ≡ b.len = ap (λ (x : Held). x.0.0) same in
    let o : a.offset ≡ b.offset = ap (λ (x : Held). x.0.1.0) same in
    let p = ptype_one a.indices_ptype b.indices_ptype (ap (λ (x : Held). x.0.1.1.0) same) in
    λ i. by_fields (l i) (o i) (p i)

-- what is read is the one that is spelled
pub read_alone : (bytes : List ℕ) (children : ℕ) (m : SparseMetadata) → (children ≡ 2) ⊎ (children ≡ 3) → IsSpelled bytes 2 m
    → IsSpelled bytes children m × ((b : SparseMetadata) → IsSpelled bytes children b → b ≡ m)
read_alone bytes children m e h = (record { fits = h.fits; spelled = h.spelled; count = e }, λ b k. spelled_one b m k.fits h.fits (sym k.spelled ∙ h.spelled))

-- what is read of bytes that spell metadata
spelled_numbers : (bytes : List ℕ) (children : ℕ) (m : SparseMetadata) → IsSpelled bytes children m → message.parse bytes ≡ Some (numbers_of m)
spelled_numbers bytes children m h = ap message.parse h.spelled ∙ spelled_read m h.fits

-- bytes that are no message spell nothing
pub unread_none : (bytes : List ℕ) → message.parse bytes ≡ None → (m : SparseMetadata) → IsSpelled bytes 2 m → ⊥
unread_none bytes none m h = absurd (let e = sym none ∙ spelled_numbers bytes 2 m h in cc)

-- ---- the message that was read
module _ (bytes : List ℕ) (len offset indices : ℕ) (e : message.parse bytes ≡ Some (three len offset indices, tt)) where
  -- it spells nothing where the third number is that of no integer type
  pub outside_indices : 8 ≤ indices → (m : SparseMetadata) → IsSpelled bytes 2 m → ⊥
  outside_indices le m h =
      let same = some_is (three len offset indices, tt) (numbers_of m) (sym e ∙ spelled_numbers bytes 2 m h) in
      absurd (omega (arith, ptype_number_small m.indices_ptype, ap (λ (x : Held). x.0.1.1.0) same))

  -- and else the metadata of its numbers
  pub read_spelled : (p : PType) → ptype_number p ≡ indices → IsSpelled bytes 2 (by_fields len offset p)
  read_spelled p is =
      let t = message_whole.canonical bytes (three len offset indices, tt) e in
      let n = t.1.0.1 in
      record {
        fits = record { len = ltb-true len (2 ^ 64) n.0.1; offset = ltb-true offset (2 ^ 64) n.1.0.1 };
        spelled = t.0 ∙ (λ i. message.spell (three len offset (sym is i), tt));
        count = inl refl;
      }
