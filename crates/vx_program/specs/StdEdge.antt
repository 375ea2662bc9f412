-- What the adapters of std hold.
use Rattle.std.specs.Prelude.{ℕ}
use Rattle.vx_program.specs.declared.std_edge.StdSource.{StdSource}
use Rattle.vx_program.specs.declared.std_edge.StdSink.{StdSink}

-- how often a read has failed
abbrev pub read_faults : {R : Type 0} → StdSource R → ℕ
read_faults s = s.faults

-- how often a write or a flush has failed
abbrev pub write_faults : {W : Type 0} → StdSink W → ℕ
write_faults s = s.faults

-- the reader within
abbrev pub reader_of : {R : Type 0} → StdSource R → R
reader_of s = s.reader

-- the writer within
abbrev pub writer_of : {W : Type 0} → StdSink W → W
writer_of s = s.writer
