-- What a word becomes, part by part.
use Rattle.std.proofs.Common.{◌≡◌, ℕ, zero, suc, ◌-◌, ◌<◌, List, [], ◌∷◌, ◌++◌, length, get_or, drop, Option, Some, None}
use Rattle.std.proofs.Common.{append_assoc, refl, sym, ap, ◌∙◌, arith, lit<}
use Rattle.std.specs.Prelude.{flat_map}
use Rattle.child_words.specs.declared.names.Name.{Name}
use Rattle.child_words.specs.declared.names.Name.TheVariants.{PoolId, NodeId, JobId, TaskId, NodeList, IsMaster}
use Rattle.child_words.specs.declared.names.Names.{Names}
use Rattle.child_words.specs.Names.{name_text}
use Rattle.child_words.specs.Filling.{Named, name_at, part_of, bytes_left, parts_after, put_for, fill_word}

-- the bytes of a part that has begun give nothing more
parts_dropped : (left : ℕ) (bytes : List ℕ) → parts_after left bytes ≡ parts_after 0 (drop left bytes)
parts_dropped zero bytes = refl
parts_dropped (suc left) [] = refl
parts_dropped (suc left) (byte ∷ bytes) = parts_dropped left bytes

-- what stands for the first part, and then what the other bytes become
first_part : (names : Names) (byte : ℕ) (bytes : List ℕ) (found : Option Name) → name_at (byte ∷ bytes) ≡ found →
    fill_word names (byte ∷ bytes) ≡ put_for names (part_of found byte) ++ fill_word names (drop (bytes_left found) bytes)
unfolding fill_word
first_part names byte bytes found e =
    ap (λ o. flat_map (put_for names) (part_of o byte ∷ parts_after (bytes_left o) bytes)) e
    ∙ ap (λ parts. put_for names (part_of found byte) ++ flat_map (put_for names) parts) (parts_dropped (bytes_left found) bytes)

-- a byte that begins no name stays
fill_single : (names : Names) (bytes : List ℕ) → 0 < length bytes → name_at bytes ≡ None →
    fill_word names bytes ≡ get_or bytes 0 0 ∷ fill_word names (drop 1 bytes)
fill_single names [] h e = absurd (omega arith)
fill_single names (byte ∷ bytes) h e = first_part names byte bytes None e

-- a name has a first byte
drop_name : (name : Name) (byte : ℕ) (bytes : List ℕ) → drop (length (name_text name) - 1) bytes ≡ drop (length (name_text name)) (byte ∷ bytes)
unfolding name_text
drop_name PoolId byte bytes = refl
drop_name NodeId byte bytes = refl
drop_name JobId byte bytes = refl
drop_name TaskId byte bytes = refl
drop_name NodeList byte bytes = refl
drop_name IsMaster byte bytes = refl

-- a name that the bytes begin with is replaced
fill_named : (names : Names) (bytes : List ℕ) (name : Name) → 0 < length bytes → name_at bytes ≡ Some name →
    fill_word names bytes ≡ put_for names (Named name) ++ fill_word names (drop (length (name_text name)) bytes)
fill_named names [] name h e = absurd (omega arith)
fill_named names (byte ∷ bytes) name h e =
    first_part names byte bytes (Some name) e ∙ ap (λ rest. put_for names (Named name) ++ fill_word names rest) (drop_name name byte bytes)

-- a name has bytes
pub name_long : (name : Name) → 0 < length (name_text name)
unfolding name_text
name_long PoolId = lit< tt
name_long NodeId = lit< tt
name_long JobId = lit< tt
name_long TaskId = lit< tt
name_long NodeList = lit< tt
name_long IsMaster = lit< tt

-- what was written, and then what stands for the first part, is followed by what the rest becomes

pub single_written : (names : Names) (filled bytes : List ℕ) → 0 < length bytes → name_at bytes ≡ None →
    (filled ++ get_or bytes 0 0 ∷ []) ++ fill_word names (drop 1 bytes) ≡ filled ++ fill_word names bytes
single_written names filled bytes h e =
    append_assoc filled (get_or bytes 0 0 ∷ []) (fill_word names (drop 1 bytes)) ∙ ap (λ rest. filled ++ rest) (sym (fill_single names bytes h e))

pub named_written : (names : Names) (filled bytes : List ℕ) (name : Name) → 0 < length bytes → name_at bytes ≡ Some name →
    (filled ++ put_for names (Named name)) ++ fill_word names (drop (length (name_text name)) bytes) ≡ filled ++ fill_word names bytes
named_written names filled bytes name h e =
    append_assoc filled (put_for names (Named name)) (fill_word names (drop (length (name_text name)) bytes))
    ∙ ap (λ rest. filled ++ rest) (sym (fill_named names bytes name h e))
