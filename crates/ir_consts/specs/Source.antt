-- What a source is read as.
use Rattle.std.specs.Prelude.{nat_eq}
use Rattle.indexmap.specs.IndexMap.{get}
use Rattle.ir_consts.specs.declared.source.Source.{Source}
use Rattle.ir_consts.specs.Kinds.{kind_of}
use Rattle.ir_consts.specs.Reading.{Reading}

abbrev pub reading : Source → Reading
reading s = record {
  text = s.text.now;
  toks = s.toks.now;
  ids = s.ids.now;
  symbol = get nat_eq s.symbols.now;
  kinds = kind_of s.kinds.now;
  types = s.types.now;
  numbers = s.numbers.now;
  site = s.site;
}
