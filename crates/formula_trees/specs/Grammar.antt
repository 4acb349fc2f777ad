-- The grammar by levels: which tokens are an expression, and its tree. It knows no table and no stack.
use Rattle.std.specs.Prelude.{ℕ, ℤ, suc, List, [], ◌∷◌, ◌++◌}
use Rattle.formula_trees.specs.declared.token.BinaryOperator.{BinaryOperator}
use Rattle.formula_trees.specs.declared.token.BinaryOperator.TheVariants.{Or, And, Equal, NotEqual, Less, AtMost, Greater, AtLeast, Add, Subtract, Multiply}
use Rattle.formula_trees.specs.declared.token.BinaryOperator.TheVariants.{Divide}
use Rattle.formula_trees.specs.declared.tree.UnaryOperator.{UnaryOperator}
use Rattle.formula_trees.specs.declared.tree.UnaryOperator.TheVariants.{Negate, Invert}
use Rattle.formula_trees.specs.declared.token.Span.{Span}
use Rattle.formula_trees.specs.declared.token.Kind.{Kind}
use Rattle.formula_trees.specs.declared.token.Kind.TheVariants.{Number, Text, Name, Infix, Bang, Question, Colon, Comma, Dot, OpenGroup, CloseGroup, OpenList}
use Rattle.formula_trees.specs.declared.token.Kind.TheVariants.{CloseList}
use Rattle.formula_trees.specs.declared.token.Token.{Token}
use Rattle.formula_trees.specs.Tree.{Tree, Numeral, Quoted, Variable, Call, Vector, Member, Method, Unary, Binary, Ternary, Trees, none, more}

-- the levels, from weak to strong: 0 is the ternary, 1 to 6 the binary operators, 7 the unary ones, 8 the rest
abbrev pub level_of : BinaryOperator → ℕ
level_of Or = 1
level_of And = 2
level_of Equal = 3
level_of NotEqual = 3
level_of Less = 4
level_of AtMost = 4
level_of Greater = 4
level_of AtLeast = 4
level_of Add = 5
level_of Subtract = 5
level_of Multiply = 6
level_of Divide = 6

-- the token of a unary operator
abbrev pub sign_of : UnaryOperator → Kind
sign_of Negate = Infix Subtract
sign_of Invert = Bang

-- the token of that kind that is this part of the text
abbrev pub at : Kind → Span → Token
at k s = record { kind = k; from = s.from; to = s.to }

mutual
  -- the tokens are an expression of the level or a stronger one, and this is its tree
  pub data Reads : ℕ → List Token → Tree → Type 0 where
    number : (n : ℤ) (p : Span) → Reads 8 (at (Number n) p ∷ []) (Numeral n p)
    text : (p : Span) → Reads 8 (at Text p ∷ []) (Quoted p)
    name : (p : Span) → Reads 8 (at Name p ∷ []) (Variable p)
    group : {ts : List Token} {t : Tree} (p q : Span) → Reads 0 ts t → Reads 8 (at OpenGroup p ∷ (ts ++ at CloseGroup q ∷ [])) t
    call : {ts : List Token} {args : Trees} (p q r : Span) → ReadsItems ts args →
        Reads 8 (at Name p ∷ at OpenGroup q ∷ (ts ++ at CloseGroup r ∷ [])) (Call p args)
    vector : {ts : List Token} {args : Trees} (p q : Span) → ReadsItems ts args → Reads 8 (at OpenList p ∷ (ts ++ at CloseList q ∷ [])) (Vector p args)
    member : {ts : List Token} {t : Tree} (d p : Span) → Reads 8 ts t → Reads 8 (ts ++ at Dot d ∷ at Name p ∷ []) (Member t p)
    method : {ts us : List Token} {t : Tree} {args : Trees} (d p q r : Span) → Reads 8 ts t → ReadsItems us args →
        Reads 8 (ts ++ at Dot d ∷ at Name p ∷ at OpenGroup q ∷ (us ++ at CloseGroup r ∷ [])) (Method t p args)
    unary : {ts : List Token} {t : Tree} (o : UnaryOperator) (p : Span) → Reads 7 ts t → Reads 7 (at (sign_of o) p ∷ ts) (Unary o p t)
    binary : {ts us : List Token} {l r : Tree} (o : BinaryOperator) (p : Span) → Reads (level_of o) ts l → Reads (suc (level_of o)) us r →
        Reads (level_of o) (ts ++ at (Infix o) p ∷ us) (Binary o p l r)
    ternary : {ts us vs : List Token} {c y n : Tree} (p q : Span) → Reads 1 ts c → Reads 0 us y → Reads 0 vs n →
        Reads 0 (ts ++ at Question p ∷ (us ++ at Colon q ∷ vs)) (Ternary p c y n)
    -- an expression of a stronger level is one of this level
    stronger : {k : ℕ} {ts : List Token} {t : Tree} → Reads (suc k) ts t → Reads k ts t

  -- no expression, or some that are separated by commas
  pub data ReadsItems : List Token → Trees → Type 0 where
    no_items : ReadsItems [] none
    items : {ts : List Token} {front : Trees} {last : Tree} → ReadsSome ts front last → ReadsItems ts (more front last)

  -- one expression or more, separated by commas: those before the last, and the last
  pub data ReadsSome : List Token → Trees → Tree → Type 0 where
    first : {ts : List Token} {t : Tree} → Reads 0 ts t → ReadsSome ts none t
    next : {ts us : List Token} {front : Trees} {last t : Tree} (p : Span) → ReadsSome ts front last → Reads 0 us t →
        ReadsSome (ts ++ at Comma p ∷ us) (more front last) t
