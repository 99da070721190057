-- Where a function stands, as it is handed in.
use Rattle.ir_headers.specs.declared.headers.Standing.{Standing}
use Rattle.ir_headers.specs.Headers.{Stand}

abbrev pub stand : Standing → Stand
stand s = record { at = s.at; value = s.value; block = s.block; count = s.count }
