use Rattle.std.proofs.Common.{take, codes}
use Rattle.attr_list.specs.Summed.{names, name_line}
use Rattle.attr_list.proofs.Lines.{first_line, next_line}
use Rattle.attr_list.proofs.summing.put_names.Goals as goal

pub returns : goal.returns
returns c =
    let line = name_line c.args.insertions.now in
    let old = c.args.text.now.items in
    let l1 = first_line line old c.put_name.new.text.items (codes "nofree") c.in_ok-put_name.ensures in
    let l2 = next_line line old c.put_name.new.text.items c.put_name-2.new.text.items (take 1 names)
    (codes "norecurse") l1 c.in_ok-put_name-2.ensures in
    let l3 = next_line line old c.put_name-2.new.text.items c.put_name-3.new.text.items (take 2 names)
    (codes "noreturn") l2 c.in_ok-put_name-3.ensures in
    let l4 = next_line line old c.put_name-3.new.text.items c.put_name-4.new.text.items (take 3 names)
    (codes "nounwind") l3 c.in_ok-put_name-4.ensures in
    let l5 = next_line line old c.put_name-4.new.text.items c.put_name-5.new.text.items (take 4 names)
    (codes "memory") l4 c.in_ok-put_name-5.ensures in
    let l6 = next_line line old c.put_name-5.new.text.items c.put_name-6.new.text.items (take 5 names)
    (codes "align") l5 c.in_ok-put_name-6.ensures in
    let l7 = next_line line old c.put_name-6.new.text.items c.put_name-7.new.text.items (take 6 names)
    (codes "dereferenceable") l6 c.in_ok-put_name-7.ensures in
    let l8 = next_line line old c.put_name-7.new.text.items c.put_name-8.new.text.items (take 7 names)
    (codes "nocapture") l7 c.in_ok-put_name-8.ensures in
    let l9 = next_line line old c.put_name-8.new.text.items c.put_name-9.new.text.items (take 8 names)
    (codes "nonnull") l8 c.in_ok-put_name-9.ensures in
    let l10 = next_line line old c.put_name-9.new.text.items c.put_name-10.new.text.items (take 9 names)
    (codes "readnone") l9 c.in_ok-put_name-10.ensures in
    let l11 = next_line line old c.put_name-10.new.text.items c.put_name-11.new.text.items (take 10 names)
    (codes "readonly") l10 c.in_ok-put_name-11.ensures in
    let l12 = next_line line old c.put_name-11.new.text.items c.put_name-12.new.text.items (take 11 names)
    (codes "writeonly") l11 c.in_ok-put_name-12.ensures in
    next_line line old c.put_name-12.new.text.items c.put_name-13.new.text.items (take 12 names) (codes "returned") l12 c.in_ok-put_name-13.ensures
