-- What contracts see of a line over a port.
use Rattle.cct_live_port.specs.declared.standard.StdLine.{StdLine}

-- The opened port of a line.
abbrev pub port_of : {P : Type 0} → StdLine P → P
port_of line = line.port
