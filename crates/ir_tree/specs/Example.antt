-- A small module, its tokens and its tree.
use Rattle.std.specs.Prelude.{ℕ, List, [], ◌∷◌, None, codes}
use Rattle.ir_token.specs.Bytes.{Bytes}
use Rattle.ir_token.specs.declared.token.Kind.{Kind}
use Rattle.ir_token.specs.declared.token.Kind.TheVariants as kind
use Rattle.ir_token.specs.declared.token.Token.{Token}
use Rattle.ir_tree.specs.declared.types.Ty.TheVariants as ty
use Rattle.ir_tree.specs.declared.headers.Params.TheVariants as params
use Rattle.ir_tree.specs.declared.instructions.Term.TheVariants as term
use Rattle.ir_tree.specs.declared.blocks.Last.TheVariants as last
use Rattle.ir_tree.specs.declared.entities.Entity.TheVariants as entity
use Rattle.ir_tree.specs.declared.entities.Tree.{Tree}

abbrev pub text : Bytes
text = codes "define void @f() { ret void }"

abbrev token : Kind → ℕ → ℕ → Token
token k from to = record { kind = k; span = record { from = from; to = to } }

abbrev pub tokens : List Token
tokens = token kind.Word 0 6 ∷ token kind.Word 7 11 ∷ token kind.Global 12 14 ∷ token kind.Punct 14 15 ∷ token kind.Punct 15 16 ∷ token kind.Punct 17 18 ∷ token
    kind.Word 19 22 ∷ token kind.Word 23 27 ∷ token kind.Punct 28 29 ∷ []

-- its numbers are those of the tokens
abbrev pub tree : Tree
tree = record {
  entities = entity.Define (record {
    word = 0;
    header = record {
      linkage = None;
      words = [];
      cc = None;
      result_words = [];
      result = ty.Void 1;
      name = 2;
      params = params.Empty;
      close = 4;
      unnamed = None;
      attributes = [];
      tails = [];
    };
    body = record { first = record { label = None; lines = []; last = last.Term (term.RetVoid 6) [] [] }; blocks = [] };
    close = 8;
  }) ∷ [];
}
