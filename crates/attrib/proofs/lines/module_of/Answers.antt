use Rattle.std.proofs.Common.{◌≤◌, subst, arith}
use Rattle.ir_token.specs.Nesting.{nesting_of}
use Rattle.ir_resolve.specs.Modules.{Resolved}
use Rattle.accept.specs.declared.refusal.TheConstants.{NESTING_LIMIT}
use Rattle.attrib.proofs.lines.module_of.Goals as goal

pub returns-in-Ok-resolve : goal.returns-in-Ok-resolve
returns-in-Ok-resolve c =
    let text = c.args.text.now in
    let tree = c.in-Ok-parse_module.tree in
    let shallow : nesting_of text c.in-Ok.toks ≤ NESTING_LIMIT = omega (arith, c.nesting.ensures, c.if-nesting-gt-NESTING_LIMIT.false) in (
      c.in-Ok.toks,
      tree,
      record {
        parsed = record {
          read = record {
            tokens = record { small = c.requires; tokens = c.in-Ok.ensures.list; few = c.in-Ok.ensures.few };
            shallow = shallow;
          };
          fits = c.in-Ok-parse_module.ensures.fits;
        };
        resolved = subst (λ toks. Resolved text toks tree c.in-Ok-resolve.module) c.as_slice.ensures c.in-Ok-resolve.ensures.resolved;
      },
    )
