-- The entries, beside the ranks of their items, after each change.
use Rattle.std.proofs.Common.{◌≡◌, ℕ, suc, zero, ◌<◌, ◌≤◌, List, [], ◌∷◌, ◌++◌, length, map, set, get_or}
use Rattle.std.proofs.Common.{true, Some, None, refl, sym, ap, subst, ◌∙◌, arith}
use Rattle.std.proofs.lemmas.Slice.Eq.{bytes_eq-Decides}
use Rattle.std.proofs.lemmas.List.{get_or-map, map_push, length-map}
use Rattle.ranked_groups.specs.declared.entry.Entry.{Entry}
use Rattle.ranked_groups.specs.Items.{Item, is_of, set_rank}
use Rattle.ranked_groups.specs.Groups.{
  GroupView,
  RankedEntry,
  number_in,
  ranks_of,
  items_of,
  item_of,
  with_rank,
  with_ranks,
  no_group,
  no_entry,
  IsGrouped,
  IsEmpty,
  AreSame,
}
use Rattle.ranked_groups.proofs.Members.{no_item, rank_at, ranks_fewer}
use Rattle.ranked_groups.proofs.Grouped.{grown, items_same, pushed, items_push, ranked, items_ranked, roomier, home_within, item_at}

-- the entry alone
abbrev pub bare : RankedEntry → Entry
bare entry = record { group = entry.group; at = entry.at }

bares_with : (groups : List GroupView) (entries : List Entry) → map bare (with_ranks groups entries) ≡ entries
bares_with groups [] = refl
bares_with groups (entry ∷ entries) = ap (λ (rest : List Entry). entry ∷ rest) (bares_with groups entries)

bares_set : (groups : List GroupView) (entries : List Entry) (place : ℕ) (new : RankedEntry) → bare new ≡ get_or entries place (bare no_entry)
    → map bare (set (with_ranks groups entries) place new) ≡ entries
bares_set groups [] place new e = refl
bares_set groups (entry ∷ entries) zero new e =
    ap (λ (first : Entry). first ∷ map bare (with_ranks groups entries)) e ∙ ap (λ (rest : List Entry). entry ∷ rest) (bares_with groups entries)
bares_set groups (entry ∷ entries) (suc place) new e = ap (λ (rest : List Entry). entry ∷ rest) (bares_set groups entries place new e)

-- the rank that is kept in the group
abbrev kept_rank : List GroupView → RankedEntry → ℕ
kept_rank groups entry = get_or (get_or groups entry.group no_group).ranks entry.at 0

each_kept : (groups : List GroupView) (entries : List RankedEntry)
    → ((place : ℕ) → place < length entries → kept_rank groups (get_or entries place no_entry) ≡ (get_or entries place no_entry).rank)
    → with_ranks groups (map bare entries) ≡ entries
each_kept groups [] h = refl
each_kept groups (entry ∷ entries) h =
    ap (λ (rank : ℕ). record { group = entry.group; at = entry.at; rank = rank } ∷ with_ranks groups (map bare entries)) (h 0 (omega arith))
    ∙ ap (λ (rest : List RankedEntry). entry ∷ rest) (each_kept groups entries (λ place l. h (suc place) (omega arith)))

-- each entry's rank is the one that its group has at its number
rank_kept : (names : List (List ℕ)) (groups : List GroupView) (entries : List RankedEntry) → IsGrouped names groups entries
    → (place : ℕ) → place < length entries → kept_rank groups (get_or entries place no_entry) ≡ (get_or entries place no_entry).rank
rank_kept names groups entries g place l =
    let entry = get_or entries place no_entry in
    let items = items_of names entries in
    let home = g.homes place l in
    let text = get_or names entry.group [] in
    let long : length items ≡ length entries = length-map entries (item_of names) in
    let item = item_at names entries place l in
    let own : is_of text (get_or items place no_item) ≡ true =
    ap (λ (item : Item). is_of text item) item ∙ (bytes_eq-Decides text text).1 refl in
    ap (λ (ranks : List ℕ). get_or ranks entry.at 0) (g.each text entry.group home.number).ranks
    ∙ (ap (λ (at : ℕ). get_or (ranks_of text items) at 0) home.at
    ∙ (rank_at text items place (omega arith) own ∙ ap (λ (item : Item). item.rank) item))

-- so the groups tell the ranks of entries that are right
ranks_told : (names : List (List ℕ)) (groups : List GroupView) (entries : List Entry) (right : List RankedEntry) → map bare right ≡ entries
    → IsGrouped names groups right → right ≡ with_ranks groups entries
ranks_told names groups entries right e g =
    sym (ap (with_ranks groups) (sym e) ∙ each_kept groups right (rank_kept names groups right g))

pub record IsTold (names : List (List ℕ)) (groups : List GroupView) (entries : List Entry) (items : List Item) : Type 0 where
  pub grouped : IsGrouped names groups (with_ranks groups entries)
  pub is : items_of names (with_ranks groups entries) ≡ items

told : (names : List (List ℕ)) (groups : List GroupView) (entries : List Entry) (right : List RankedEntry) (items : List Item) → map bare right ≡ entries
    → IsGrouped names groups right → items_of names right ≡ items → IsTold names groups entries items
told names groups entries right items e g i =
    let same = ranks_told names groups entries right e g in
    record { grouped = subst (IsGrouped names groups) same g; is = sym (ap (items_of names) same) ∙ i }

-- a group without items for one more name
pub told_grown : (names : List (List ℕ)) (groups : List GroupView) (entries : List Entry) (name : List ℕ) (group : GroupView)
    → number_in name names ≡ None → IsEmpty group → IsGrouped names groups (with_ranks groups entries)
    → IsTold (names ++ name ∷ []) (groups ++ group ∷ []) entries (items_of names (with_ranks groups entries))
told_grown names groups entries name group new empty g =
    let right = with_ranks groups entries in
    told (names ++ name ∷ []) (groups ++ group ∷ []) entries right (items_of names right) (bares_with groups entries)
    (grown names groups right name group new empty g) (items_same names groups right name g)

-- one more item
pub told_pushed : (names : List (List ℕ)) (groups : List GroupView) (entries : List Entry) (name : List ℕ) (number at rank end : ℕ) (before group : GroupView)
    → number_in name names ≡ Some number → before ≡ get_or groups number no_group → at ≡ length before.ranks → end ≡ length entries
    → group.ranks ≡ before.ranks ++ rank ∷ [] → group.places ≡ before.places ++ end ∷ [] → IsGrouped names groups (with_ranks groups entries)
    → IsTold names (set groups number group) (entries ++ record { group = number; at = at } ∷ [])
    (items_of names (with_ranks groups entries) ++ record { group = name; rank = rank } ∷ [])
told_pushed names groups entries name number at rank end before group is read count last ranks places g =
    let old = with_ranks groups entries in
    let entry : RankedEntry = record { group = number; at = at; rank = rank } in
    let long : length old ≡ length entries = length-map entries (with_rank groups) in
    told names (set groups number group) (entries ++ bare entry ∷ []) (old ++ entry ∷ [])
    (items_of names old ++ record { group = name; rank = rank } ∷ [])
    (map_push bare old entry ∙ ap (λ (rest : List Entry). rest ++ bare entry ∷ []) (bares_with groups entries))
    (pushed names groups old name number at rank end group is (count ∙ ap (λ (v : GroupView). length v.ranks) read) (last ∙ sym long)
    (ranks ∙ ap (λ (v : GroupView). v.ranks ++ rank ∷ []) read) (places ∙ ap (λ (v : GroupView). v.places ++ end ∷ []) read) g)
    (items_push names old name number at rank is)

-- the entry at a place, beside its rank
read_with : (groups : List GroupView) (entries : List Entry) (place : ℕ) (entry : Entry) → place < length entries
    → entry ≡ get_or entries place (bare no_entry) → with_rank groups entry ≡ get_or (with_ranks groups entries) place no_entry
read_with groups entries place entry l read =
    ap (with_rank groups) read ∙ sym (get_or-map (with_rank groups) entries place (bare no_entry) no_entry l)

-- an entry's number within its group is one of the group's
pub told_within : (names : List (List ℕ)) (groups : List GroupView) (entries : List Entry) (place : ℕ) (entry : Entry) → place < length entries
    → entry ≡ get_or entries place (bare no_entry) → IsGrouped names groups (with_ranks groups entries)
    → (entry.group < length groups) × (entry.at < length (get_or groups entry.group no_group).ranks)
told_within names groups entries place entry l read g =
    let all = with_ranks groups entries in
    let long : length all ≡ length entries = length-map entries (with_rank groups) in
    subst (λ (x : RankedEntry). (x.group < length groups) × (x.at < length (get_or groups x.group no_group).ranks))
    (sym (read_with groups entries place entry l read)) (home_within names groups all place (omega arith) g)

-- another rank for an item
pub told_ranked : (names : List (List ℕ)) (groups : List GroupView) (entries : List Entry) (place rank : ℕ) (entry : Entry) (before group : GroupView)
    → place < length entries → entry ≡ get_or entries place (bare no_entry) → before ≡ get_or groups entry.group no_group
    → group.ranks ≡ set before.ranks entry.at rank → group.places ≡ before.places
    → IsGrouped names groups (with_ranks groups entries)
    → IsTold names (set groups entry.group group) entries (set_rank (items_of names (with_ranks groups entries)) place rank)
told_ranked names groups entries place rank entry before group l read old_group ranks places g =
    let old = with_ranks groups entries in
    let new : RankedEntry = record { group = entry.group; at = entry.at; rank = rank } in
    let long : length old ≡ length entries = length-map entries (with_rank groups) in
    let both = read_with groups entries place entry l read in
    told names (set groups entry.group group) entries (set old place new) (set_rank (items_of names old) place rank)
    (bares_set groups entries place new read)
    (ranked names groups old place rank (with_rank groups entry) group (omega arith) both
    (ranks ∙ ap (λ (v : GroupView). set v.ranks entry.at rank) old_group) (places ∙ ap (λ (v : GroupView). v.places) old_group) g)
    (items_ranked names old place rank (with_rank groups entry) both)

-- the same groups with other room
pub told_roomier : (names names' : List (List ℕ)) (groups old new : List GroupView) (entries entries' : List Entry) → names' ≡ names → old ≡ groups
    → AreSame old new → entries' ≡ entries → IsGrouped names groups (with_ranks groups entries)
    → IsTold names' new entries' (items_of names (with_ranks groups entries))
told_roomier names names' groups old new entries entries' same_names same_groups same same_entries g =
    let right = with_ranks groups entries in
    told names' new entries' right (items_of names right) (bares_with groups entries ∙ sym same_entries)
    (roomier names names' groups old new right right same_names same_groups same refl g) (ap (λ (ns : List (List ℕ)). items_of ns right) same_names)

-- a group has no more items than there are entries
pub told_fewer : (names : List (List ℕ)) (groups : List GroupView) (entries : List Entry) (name : List ℕ) (number : ℕ) → number_in name names ≡ Some number
    → IsGrouped names groups (with_ranks groups entries) → length (get_or groups number no_group).ranks ≤ length entries
told_fewer names groups entries name number is g =
    let all = with_ranks groups entries in
    let long : length all ≡ length entries = length-map entries (with_rank groups) in
    let also : length (items_of names all) ≡ length all = length-map all (item_of names) in
    let ranks = ap length (g.each name number is).ranks in
    let fewer = ranks_fewer name (items_of names all) in
    omega arith
