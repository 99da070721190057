-- Uses that are taken in one behind another.
use Rattle.std.proofs.Common.{◌≡◌, List, [], ◌∷◌, ◌++◌, refl, sym, ap, ◌∙◌, append_assoc}
use Rattle.std.proofs.lemmas.List.{append-nil}
use Rattle.ir_operands.specs.Constants.{ArePartsBelow}
use Rattle.ir_scopes.specs.Faults.{first_in}
use Rattle.ir_scopes.proofs.Entering.{first_in-append}
use Rattle.ir_consts.specs.declared.consts.Laid.{Laid}
use Rattle.ir_instrs.specs.Reading.{Reading, Parts}
use Rattle.ir_instrs.specs.Uses.{Use, behind_use, use_faults, faults_of, behind, Takes}

-- the parts behind two lists of uses
pub behind_append : (r : Reading) (ps : Parts) (us vs : List Use) → behind r ps (us ++ vs) ≡ behind r (behind r ps us) vs
behind_append r ps [] vs = refl
behind_append r ps (u ∷ us) vs = behind_append r (behind_use r ps u) us vs

pub faults_append : (r : Reading) (us vs : List Use) → faults_of r (us ++ vs) ≡ faults_of r us ++ faults_of r vs
faults_append r [] vs = refl
faults_append r (u ∷ us) vs =
    ap (λ xs. use_faults r u ++ xs) (faults_append r us vs) ∙ sym (append_assoc (use_faults r u) (faults_of r us) (faults_of r vs))

-- one use
pub takes_one : (r : Reading) (u : Use) (old new : Laid) → new.parts.items ≡ behind_use r old.parts.items u →
    new.found ≡ first_in old.found (use_faults r u) → ArePartsBelow new.parts.items → Takes r (u ∷ []) old new
takes_one r u old new parts found below = record {
  parts = parts;
  found = found ∙ ap (first_in old.found) (sym (append-nil (use_faults r u)));
  below = below;
}

pub takes_none : (r : Reading) (s : Laid) → ArePartsBelow s.parts.items → Takes r [] s s
takes_none r s below = record { parts = refl; found = refl; below = below }

-- uses behind others
pub takes_both : (r : Reading) (us vs : List Use) (old mid new : Laid) → Takes r us old mid → Takes r vs mid new → Takes r (us ++ vs) old new
takes_both r us vs old mid new a b = record {
  parts = b.parts ∙ ap (λ ps. behind r ps vs) a.parts ∙ sym (behind_append r old.parts.items us vs);
  found = b.found ∙ ap (λ f. first_in f (faults_of r vs)) a.found ∙ sym (first_in-append old.found (faults_of r us) (faults_of r vs))
      ∙ ap (first_in old.found) (sym (faults_append r us vs));
  below = b.below;
}
