use Rattle.vx_codec.specs.Laws.{format_by}
use Rattle.vx_codec.proofs.FormatLaws.{one_reading, pair_lawful, both_lawful, tested_lawful, mapped_lawful}
use Rattle.vx_codec.proofs.ListLaws.{repeated_lawful, counted_lawful, optional_lawful, framed_lawful}
use Rattle.vx_codec.proofs.laws.combinators_keep_laws.Goals as goal

pub returns-clause-apart : goal.returns-clause-apart
returns-clause-apart t c = λ spell parse fits law. one_reading (format_by spell parse fits) law

pub returns-clause-pair : goal.returns-clause-pair
returns-clause-pair t c =
    λ spell parse fits law other other_parse other_fits. pair_lawful (format_by spell parse fits) (λ a. format_by (other a) (other_parse a) (other_fits a)) law

pub returns-clause-both : goal.returns-clause-both
returns-clause-both t c =
    λ spell parse fits law other other_parse other_fits. both_lawful (format_by spell parse fits) (format_by other other_parse other_fits) law

pub returns-clause-mapped : goal.returns-clause-mapped
returns-clause-mapped t c = λ spell parse fits law to back. mapped_lawful to back (format_by spell parse fits) law

pub returns-clause-tested : goal.returns-clause-tested
returns-clause-tested t c = λ spell parse fits law ok. tested_lawful ok (format_by spell parse fits) law

pub returns-clause-repeated : goal.returns-clause-repeated
returns-clause-repeated t c = λ spell parse fits law count. repeated_lawful (format_by spell parse fits) count law

pub returns-clause-counted : goal.returns-clause-counted
returns-clause-counted t c = λ spell parse fits. counted_lawful (format_by spell parse fits)

pub returns-clause-optional : goal.returns-clause-optional
returns-clause-optional t c = λ spell parse fits. optional_lawful (format_by spell parse fits)

pub returns-clause-framed : goal.returns-clause-framed
returns-clause-framed t c = λ spell parse fits. framed_lawful (format_by spell parse fits)
