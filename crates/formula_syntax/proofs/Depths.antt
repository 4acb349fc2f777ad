-- No more marks are open than frames.
use Rattle.std.proofs.Common.{◌≤◌, List, [], ◌∷◌, length, reverse, arith}
use Rattle.std.proofs.lemmas.List.{length-map, length-reverse}
use Rattle.formula_syntax.specs.declared.stack.Frame.{Frame}
use Rattle.formula_syntax.specs.Frames.{frame_of, frames_of}
use Rattle.formula_syntax.specs.Parser.{InGroup, InCall, InList, InUnary, InBinary, AfterQuestion, AfterColon, Stack, depth_of}

depth_le : (s : Stack) → depth_of s ≤ length s
depth_le [] = omega arith
depth_le (InGroup ∷ s) = omega (arith, depth_le s)
depth_le (InCall c args ∷ s) = omega (arith, depth_le s)
depth_le (InList p args ∷ s) = omega (arith, depth_le s)
depth_le (InUnary o p ∷ s) = omega (arith, depth_le s)
depth_le (InBinary o p l ∷ s) = omega (arith, depth_le s)
depth_le (AfterQuestion p c ∷ s) = omega (arith, depth_le s)
depth_le (AfterColon p c y ∷ s) = omega (arith, depth_le s)

pub depth_frames : (fs : List Frame) → depth_of (frames_of fs) ≤ length fs
depth_frames fs = omega (arith, depth_le (frames_of fs), length-map (reverse fs) frame_of, length-reverse fs)
