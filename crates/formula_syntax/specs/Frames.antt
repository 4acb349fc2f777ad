-- The stack that the frames of the program represent.
use Rattle.std.specs.Prelude.{◌≡◌, List, [], ◌∷◌, map, reverse}
use Rattle.formula_syntax.specs.declared.stack.Callee.{Callee}
use Rattle.formula_syntax.specs.declared.stack.Callee.TheVariants.{Free, Of}
use Rattle.formula_syntax.specs.declared.stack.Frame.{Frame}
use Rattle.formula_syntax.specs.declared.stack.Frame.TheVariants.{Group, Call, Unary, Binary, Question, Colon, Items}
use Rattle.formula_trees.specs.View.{tree_of, trees_of}
use Rattle.formula_syntax.specs.Parser as parser

-- a name that was read
abbrev pub callee_of : Callee → parser.Callee
callee_of (Free p) = parser.Free p
callee_of (Of e p) = parser.Of (tree_of e) p

-- one thing that is open
abbrev pub frame_of : Frame → parser.Frame
frame_of Group = parser.InGroup
frame_of (Call c args) = parser.InCall (callee_of c) (trees_of args.items)
frame_of (Items p args) = parser.InList p (trees_of args.items)
frame_of (Unary o p) = parser.InUnary o p
frame_of (Binary o p e) = parser.InBinary o p (tree_of e)
frame_of (Question p c) = parser.AfterQuestion p (tree_of c)
frame_of (Colon p c y) = parser.AfterColon p (tree_of c) (tree_of y)

-- the program has the last one last
abbrev pub frames_of : List Frame → parser.Stack
frames_of fs = map frame_of (reverse fs)

-- the frame is the last one
abbrev pub IsLast : parser.Frame → parser.Stack → Type 0
IsLast f [] = ⊥
IsLast f (g ∷ s) = f ≡ g
