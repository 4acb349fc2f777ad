-- What a source gave over several reads.
use Rattle.std.proofs.Common.{◌≡◌, ◌<◌, ℕ, List, [], ◌++◌, Option, None, Some, IfSome, ap, refl, arith, length}
use Rattle.std.proofs.lemmas.List.{length-append}
use Rattle.std.specs.Io.KnownBytes.{Consumes}
use Rattle.byte_streams.specs.Content.{HoldsOfInput}

-- more bytes were read than this number, and some may be left
pub read_more : (a b c : Option (List ℕ)) (bytes more all : List ℕ) (limit : ℕ) → Consumes a b bytes → Consumes b c more → all ≡ bytes ++ more →
    limit < length all → HoldsOfInput a (λ input. limit < length input)
read_more None b c bytes more all limit f g e over = record { input = all; seen = tt; holds = over }
read_more (Some xs) None c bytes more all limit f g e over = absurd f
read_more (Some xs) (Some ys) None bytes more all limit f g e over = absurd g
read_more (Some xs) (Some ys) (Some zs) bytes more all limit f g e over = record {
  input = xs;
  seen = refl;
  holds = omega (arith, over, ap length e, length-append bytes more, ap length f, length-append bytes ys, ap length g, length-append more zs);
}

-- what was read to the end is the input
pub all_read : (left : Option (List ℕ)) (bytes : List ℕ) (P : List ℕ → Type 0) → IfSome left (λ told. bytes ≡ told) → P bytes → HoldsOfInput left P
all_read left bytes P e p = record { input = bytes; seen = e; holds = p }

-- what holds of all bytes holds of the input
pub of_input : (left : Option (List ℕ)) (P : List ℕ → Type 0) → ((bytes : List ℕ) → P bytes) → HoldsOfInput left P
of_input None P h = record { input = []; seen = tt; holds = h [] }
of_input (Some bytes) P h = record { input = bytes; seen = refl; holds = h bytes }

-- what follows from what holds of the input
pub input_so : {P Q : List ℕ → Type 0} {left : Option (List ℕ)} → HoldsOfInput left P → ((bytes : List ℕ) → P bytes → Q bytes) → HoldsOfInput left Q
input_so p h = record { input = p.input; seen = p.seen; holds = h p.input p.holds }
