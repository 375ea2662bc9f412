use Rattle.std.proofs.Common.{inl, inr, rules}
use Rattle.vx_sparse.proofs.MetadataLaws.{read_alone}
use Rattle.vx_sparse.proofs.metadata.SparseMetadata.deserialize.Goals as goal

pub returns-in-Some : goal.returns-in-Some
returns-in-Some c = read_alone c.args.bytes.now c.args.children c.in-Some.metadata (elim c.else-children-ne2.either [ inl h ↦ inr h.1 | inr h ↦ inl h ]) (search rules)
