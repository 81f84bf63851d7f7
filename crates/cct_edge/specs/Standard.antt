-- What contracts see of a source over a reader and of a sink over a writer.
use Rattle.std.specs.Prelude.{ℕ}
use Rattle.cct_edge.specs.declared.standard.StdSink.{StdSink}
use Rattle.cct_edge.specs.declared.standard.StdSource.{StdSource}

-- the reader of a source
abbrev pub reader_of : {R : Type 0} → StdSource R → R
reader_of source = source.reader

-- how often the reader of a source has failed
abbrev pub reader_faults : {R : Type 0} → StdSource R → ℕ
reader_faults source = source.faults

-- the writer of a sink
abbrev pub writer_of : {W : Type 0} → StdSink W → W
writer_of sink = sink.writer

-- how often the writer of a sink has failed
abbrev pub writer_faults : {W : Type 0} → StdSink W → ℕ
writer_faults sink = sink.faults
