use Rattle.std.proofs.Common.{ap, subst, sym, ◌∙◌, ◌++◌, ◌∷◌, [], not}
use Rattle.std.specs.List.{flat_map}
use Rattle.std.proofs.lemmas.List.{append-nil}
use Rattle.ir_module.specs.Calls.{is_lifetime_name}
use Rattle.ir_scopes.specs.declared.faults.Cause.TheVariants.{Twice}
use Rattle.ir_scopes.specs.Faults.{first_in, fault_unless}
use Rattle.ir_consts.specs.Reading.{AreThere}
use Rattle.ir_operands.specs.declared.rule.Site.TheVariants.{Initial}
use Rattle.ir_bodies.specs.Groups.{group_faults}
use Rattle.ir_headers.specs.Globals.{global_of, behind_global, initial_faults}
use Rattle.ir_resolve.specs.Inputs.{at_site}
use Rattle.ir_resolve.specs.Building.{setting_of, before, found}
use Rattle.ir_resolve.specs.Entities.{outside}
use Rattle.ir_resolve.proofs.Putting.{noted}
use Rattle.ir_resolve.proofs.state.Resolving.global.Goals as goal

pub global_of-requires-clause-there : goal.global_of-requires-clause-there
global_of-requires-clause-there c = subst AreThere (sym c.initials-src.ensures) c.requires.sound.there

pub returns : goal.returns
returns c =
    let x = setting_of c.args.desk.now in
    let g = c.args.global.now in
    let old = c.args.self.now in
    let ps = old.builder.notes.parts.items in
    let r = c.initials-src.ensures in
    let made = c.in_ok-made.ensures.value ∙ ap (λ r. global_of r ps g) r in
    let parts = c.in_ok-made.ensures.parts ∙ ap (λ r. behind_global r ps g) r in
    let first = c.in_ok-made.ensures.found ∙ ap (λ r. first_in (found old) (initial_faults r g.initial)) r in
    let groups = c.note_groups.ensures ∙ ap (λ gs. first_in c.global_of.new.out.found (flat_map (group_faults (outside x)) gs)) c.as_slice.ensures in
    let lifetime = c.is_lifetime_name-well.ensures ∙ ap is_lifetime_name (c.as_slice-2.ensures ∙ ap (λ g. g.name) made) in
    let last = c.note_unless.ensures ∙ ap (λ b. first_in c.note_groups.new.found (fault_unless (not b) Twice g.name)) lifetime in
    record {
      globals = c.in_ok-push.ensures.items ∙ ap (λ z. old.globals.items ++ z ∷ []) made;
      funcs = sym (append-nil old.funcs.items);
      blocks = sym (append-nil old.builder.blocks.items);
      segs = sym (append-nil old.builder.cutter.segs.items);
      values = sym (append-nil old.values.items);
      found = noted _ _ _ _ (initial_faults (at_site Initial x) g.initial) (flat_map (group_faults (outside x)) g.groups)
          (fault_unless (not (is_lifetime_name (global_of (at_site Initial x) ps g).name)) Twice g.name) first groups last;
      behind = λ i. record { funcs = (before old).funcs; blocks = (before old).blocks; segs = (before old).segs; values = (before old).values; laid = parts i };
      ready = record { run = c.requires.ready.run; below = c.in_ok-made.ensures.below };
    }
