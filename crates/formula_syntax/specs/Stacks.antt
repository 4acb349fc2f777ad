-- The stack that is open.
use Rattle.formula_syntax.specs.declared.stack.Stack.{Stack}
use Rattle.formula_syntax.specs.Frames.{frames_of}
use Rattle.formula_syntax.specs.Parser as parser

-- the frames of a stack, the last one first
abbrev pub stack_of : Stack → parser.Stack
stack_of s = frames_of s.frames.items
