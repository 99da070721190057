use Rattle.manifest.proofs.Texts.{items_are}
use Rattle.manifest.proofs.spelling.put_items.Goals as goal

pub returns : goal.returns
returns c =
    items_are c.args.text.now.items c.put_item-3.new.text.items c.put_item.new.text.items c.put_item-2.new.text.items c.args.memory.now
    c.has_default-default.result c.has_argmem-argmem.result c.has_inaccessible.result c.either-behind.result
    c.has_default-default.ensures c.has_argmem-argmem.ensures c.has_inaccessible.ensures c.either-behind.ensures
    c.in_ok-put_item.ensures c.in_ok-put_item-2.ensures c.in_ok-put_item-3.ensures
