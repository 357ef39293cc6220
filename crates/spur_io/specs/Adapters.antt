-- What contracts see of the adapters over std's reader and writer.
use Rattle.std.specs.Prelude.{ℕ}
use Rattle.spur_io.specs.declared.adapters.SourceStd.{SourceStd}
use Rattle.spur_io.specs.declared.adapters.SinkStd.{SinkStd}

-- the reader that a source stands over
abbrev pub reader_of : {R : Type 0} → SourceStd R → R
reader_of s = s.reader

-- the faults of a source over a reader
abbrev pub read_faults : {R : Type 0} → SourceStd R → ℕ
read_faults s = s.faults

-- the writer that a sink stands over
abbrev pub writer_of : {W : Type 0} → SinkStd W → W
writer_of s = s.writer

-- the faults of a sink over a writer
abbrev pub write_faults : {W : Type 0} → SinkStd W → ℕ
write_faults s = s.faults
