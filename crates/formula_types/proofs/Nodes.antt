-- An expression's type through its nodes, and the types of arguments one after the other.
use Rattle.std.proofs.Common.{◌≡◌, ℕ, suc, List, [], ◌∷◌, ◌++◌, Option, Some, None, Result, Ok, Err, refl, sym, ap, ◌∙◌, drop, drop-cons, get_or, length, ◌<◌}
use Rattle.std.proofs.Common.{◌≤◌}
use denote.Ref.{Bor}
use Rattle.std.proofs.lemmas.List.{at_drop_all}
use Rattle.bt_base.specs.declared.fail.Fail.{Fail}
use Rattle.bt_base.specs.declared.fail.Fail.TheVariants.{Memory, Why}
use Rattle.bt_base.specs.Fails.{◌>>=◌, Fails}
use Rattle.formula_trees.specs.declared.tree.Expr.{Expr}
use Rattle.formula_trees.specs.Tree.{Tree, Numeral, Quoted, Variable, Call, Vector, Member, Method, Unary, Binary, Ternary, Trees, none, more}
use Rattle.formula_trees.specs.View.{tree_of, trees_after, trees_of}
use Rattle.formula_trees.specs.declared.value_types.ExprType.{ExprType}
use Rattle.formula_types.specs.Scopes as scopes
use Rattle.formula_types.specs.Typing.{type_of, types_of}
use Rattle.formula_types.specs.Nodes.{first_of, node_type, through, types_after}
use Rattle.formula_types.specs.declared.fault.TypeFault.{TypeFault}
use Rattle.formula_types.proofs.Steps.{ends_there, one_more}

abbrev from_first : List ℕ → scopes.Variables → Tree → ExprType → Option Tree → Result ExprType TypeFault
from_first text set t any None = node_type text set t any
from_first text set t any (Some f) = type_of text set f >>= node_type text set t

type_from_first : (text : List ℕ) (set : scopes.Variables) (t : Tree) (any : ExprType) → type_of text set t ≡ from_first text set t any (first_of t)
type_from_first text set (Numeral n p) any = refl
type_from_first text set (Quoted p) any = refl
type_from_first text set (Variable p) any = refl
type_from_first text set (Call p args) any = refl
type_from_first text set (Vector p items) any = refl
type_from_first text set (Member t p) any = refl
type_from_first text set (Method t p args) any = refl
type_from_first text set (Unary o p t) any = refl
type_from_first text set (Binary o p l r) any = refl
type_from_first text set (Ternary p c y n) any = refl

-- the type of an expression with a first operand
pub type_by_first : (text : List ℕ) (set : scopes.Variables) (t f : Tree) (any : ExprType) → first_of t ≡ Some f →
    type_of text set t ≡ (type_of text set f >>= node_type text set t)
type_by_first text set t f any e = type_from_first text set t any ∙ ap (from_first text set t any) e

-- the type of an expression without one
pub type_alone : (text : List ℕ) (set : scopes.Variables) (t : Tree) (any : ExprType) → first_of t ≡ None → type_of text set t ≡ node_type text set t any
type_alone text set t any e = type_from_first text set t any ∙ ap (from_first text set t any) e

-- one node more, the innermost
pub through_push : (text : List ℕ) (set : scopes.Variables) (es : List (Bor Expr)) (e : Bor Expr) (r : Result ExprType TypeFault) →
    through text set (es ++ e ∷ []) r ≡ through text set es (r >>= node_type text set (tree_of e.now))
through_push text set [] e r = refl
through_push text set (x ∷ es) e r = ap (λ q. q >>= node_type text set (tree_of x.now)) (through_push text set es e r)

-- a fault within is the fault of the whole
pub through_fault : (text : List ℕ) (set : scopes.Variables) (es : List (Bor Expr)) (f : TypeFault) → through text set es (Err f) ≡ Err f
through_fault text set [] f = refl
through_fault text set (x ∷ es) f = ap (λ q. q >>= node_type text set (tree_of x.now)) (through_fault text set es f)

types_after_some : (text : List ℕ) (set : scopes.Variables) (front : Trees) (es : List Expr) →
    types_of text set (trees_after front es) ≡ (types_of text set front >>= (λ types. types_after text set types es))
types_after_some text set front [] = ends_there (types_of text set front)
types_after_some text set front (e ∷ es) =
    types_after_some text set (more front (tree_of e)) es
    ∙ one_more (types_of text set front) (type_of text set (tree_of e)) (λ types. types_after text set types es)

-- the types of all arguments, from the first on
pub types_in_order : (text : List ℕ) (set : scopes.Variables) (es : List Expr) → types_of text set (trees_of es) ≡ types_after text set [] es
types_in_order text set es = types_after_some text set none es

-- the innermost node has a type
pub through_pop : (text : List ℕ) (set : scopes.Variables) (all rest : List (Bor Expr)) (node : Bor Expr) (found next : ExprType)
    (whole : Result ExprType TypeFault) → all ≡ rest ++ node ∷ [] → through text set all (Ok found) ≡ whole →
    node_type text set (tree_of node.now) found ≡ Ok next → through text set rest (Ok next) ≡ whole
through_pop text set all rest node found next whole e h is =
    ap (through text set rest) (sym is)
    ∙ sym (through_push text set rest node (Ok found))
    ∙ ap (λ es. through text set es (Ok found)) (sym e)
    ∙ h

-- the innermost node has a fault
pub through_fails : (text : List ℕ) (set : scopes.Variables) (all rest : List (Bor Expr)) (node : Bor Expr) (found : ExprType)
    (whole : Result ExprType TypeFault) (f : Fail TypeFault) → all ≡ rest ++ node ∷ [] → through text set all (Ok found) ≡ whole →
    Fails f (node_type text set (tree_of node.now) found) → Fails f whole
through_fails text set all rest node found whole Memory e h is = tt
through_fails text set all rest node found whole (Why g) e h is =
    sym h
    ∙ ap (λ es. through text set es (Ok found)) e
    ∙ through_push text set rest node (Ok found)
    ∙ ap (through text set rest) is
    ∙ through_fault text set rest g

-- an argument has a fault
pub arguments_fail : (text : List ℕ) (set : scopes.Variables) (types : List ExprType) (es : List Expr) (i : ℕ) (e : Expr) (f : Fail TypeFault) →
    e ≡ get_or es i e → i < length es → types_after text set types (drop i es) ≡ types_after text set [] es → Fails f (type_of text set (tree_of e)) →
    Fails f (types_of text set (trees_of es))
arguments_fail text set types es i e Memory is lt h fails = tt
arguments_fail text set types es i e (Why g) is lt h fails =
    types_in_order text set es
    ∙ sym h
    ∙ ap (types_after text set types) (drop-cons es i e lt ∙ ap (λ x. x ∷ drop (suc i) es) (sym is))
    ∙ ap (λ r. r >>= (λ type. types_after text set (types ++ type ∷ []) (drop (suc i) es))) fails

-- all arguments have types
pub arguments_typed : (text : List ℕ) (set : scopes.Variables) (types : List ExprType) (es : List Expr) (i : ℕ) → length es ≤ i →
    types_after text set types (drop i es) ≡ types_after text set [] es → types_of text set (trees_of es) ≡ Ok types
arguments_typed text set types es i past h =
    types_in_order text set es ∙ sym h ∙ at_drop_all (types_after text set types) es i past
