use Rattle.std.proofs.Common.{sym}
use Rattle.module_rows.proofs.rules.header_of.Goals as goal

pub header_is_kept-requires-clause-named : goal.header_is_kept-requires-clause-named
header_is_kept-requires-clause-named c = (c.requires.funcs _ c.in_ok-func.func.now (sym c.in_ok-func.ensures.value)).extra
