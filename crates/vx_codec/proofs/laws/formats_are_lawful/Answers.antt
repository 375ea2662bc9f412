use Rattle.vx_codec.proofs.BitLaws.{bits_lawful}
use Rattle.vx_codec.proofs.ListLaws.{delimited_lawful}
use Rattle.vx_codec.proofs.NumberLaws.{byte_lawful, varint_lawful, fixed_width_lawful, raw_lawful}
use Rattle.vx_codec.proofs.laws.formats_are_lawful.Goals as goal

pub returns-clause-byte : goal.returns-clause-byte
returns-clause-byte c = byte_lawful

pub returns-clause-varint : goal.returns-clause-varint
returns-clause-varint c = varint_lawful

pub returns-clause-fixed_width : goal.returns-clause-fixed_width
returns-clause-fixed_width c = fixed_width_lawful

pub returns-clause-raw : goal.returns-clause-raw
returns-clause-raw c = raw_lawful

pub returns-clause-delimited : goal.returns-clause-delimited
returns-clause-delimited c = delimited_lawful

pub returns-clause-bits : goal.returns-clause-bits
returns-clause-bits c = bits_lawful
