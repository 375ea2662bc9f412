use Rattle.vx_codec.specs.Laws.{whole_by}
use Rattle.vx_codec.proofs.MessageLaws.{ended_whole, number_field_whole, message_field_whole, tested_whole_whole, one_message}
use Rattle.vx_codec.proofs.laws.fields_make_messages.Goals as goal

pub returns-clause-ended : goal.returns-clause-ended
returns-clause-ended t c = ended_whole

pub returns-clause-number_field : goal.returns-clause-number_field
returns-clause-number_field t c = λ low number lt spell parse fits law. number_field_whole low number (whole_by spell parse fits) lt law

pub returns-clause-message_field : goal.returns-clause-message_field
returns-clause-message_field t c =
    λ low high number lt spell parse fits inner other other_parse other_fits law. message_field_whole low high number (whole_by spell parse fits) (whole_by other other_parse other_fits) lt inner law

pub returns-clause-tested : goal.returns-clause-tested
returns-clause-tested t c = λ low spell parse fits law ok. tested_whole_whole low ok (whole_by spell parse fits) law

pub returns-clause-unlike : goal.returns-clause-unlike
returns-clause-unlike t c = λ low spell parse fits law. one_message low (whole_by spell parse fits) law
