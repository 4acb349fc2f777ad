-- The groups are those of the items after each change.
use Rattle.std.proofs.Common.{◌≡◌, ◌≢◌, ℕ, suc, zero, ◌<◌, ◌≤◌, Bool, true, false, cond, List, [], ◌∷◌, ◌++◌, length, set, get_or}
use Rattle.std.proofs.Common.{Option, Some, None, refl, sym, ap, subst, ◌∙◌, ⊎_elim, arith}
use Rattle.std.specs.Str.{bytes_eq}
use Rattle.std.proofs.lemmas.Slice.Eq.{bytes_eq-Decides}
use Rattle.std.proofs.lemmas.Bool.{cases_Bool, cases_eq, cases_lt, cond-true, cond-false, true≢false}
use Rattle.std.proofs.lemmas.List.{get_or_append_left, get_or_push, get_or-set_same, get_or-set_other, get_or-map}
use Rattle.std.proofs.lemmas.List.{map_push, length-map, length_push, length-set}
use Rattle.ranked_groups.specs.Items.{Item, is_of, set_rank}
use Rattle.ranked_groups.specs.Groups.{
  GroupView,
  RankedEntry,
  ranks_of,
  places_from,
  count_before,
  number_in,
  item_of,
  items_of,
  no_group,
  no_entry,
  IsGroup,
  IsHome,
  IsGrouped,
  IsEmpty,
  AreSame,
}
use Rattle.ranked_groups.proofs.Members.{no_item, ranks_push, places_push, count_all, count_push, count_set, count_within, ranks_set, ranks_other, places_set}
use Rattle.ranked_groups.proofs.Numbers.{found, number_same, number_push}

some_number : (a : Bool) (n k : ℕ) (p : Option ℕ) → a ≡ true → cond a (Some n) p ≡ Some k → k ≡ n
some_number true n k p e h = cc
some_number false n k p e h = absurd (cc)

none_is_apart : (a : Bool) (n : ℕ) (p : Option ℕ) → cond a (Some n) p ≡ None → a ≡ false
none_is_apart true n p h = absurd (cc)
none_is_apart false n p h = refl

-- a name without a number is none of those with a number
apart : (name other : List ℕ) (names : List (List ℕ)) (k : ℕ) → number_in name names ≡ None → number_in other names ≡ Some k → bytes_eq name other ≡ false
apart name other names k new h =
    ⊎_elim
    (λ (e : bytes_eq name other ≡ true). let same : number_in other names ≡ number_in name names = number_same name other names e in absurd (cc))
    (λ (e : bytes_eq name other ≡ false). e)
    (cases_Bool (bytes_eq name other))

-- different names have different numbers
numbers_apart : (name other : List ℕ) (names : List (List ℕ)) (n k : ℕ) → number_in name names ≡ Some n → number_in other names ≡ Some k
    → bytes_eq name other ≡ false → k ≢ n
numbers_apart name other names n k h g e same =
    let one = (found name names n h).is in
    let two = (found other names k g).is in
    let both : name ≡ other = sym one ∙ (ap (λ (i : ℕ). get_or names i []) (sym same) ∙ two) in
    absurd (true≢false (sym ((bytes_eq-Decides name other).1 both) ∙ e))

-- a group without items for one more name

items_grown : (names : List (List ℕ)) (entries : List RankedEntry) (name : List ℕ)
    → ((place : ℕ) → place < length entries → (get_or entries place no_entry).group < length names)
    → items_of (names ++ name ∷ []) entries ≡ items_of names entries
items_grown names [] name h = refl
items_grown names (entry ∷ entries) name h =
    let here : get_or (names ++ name ∷ []) entry.group [] ≡ get_or names entry.group [] =
    get_or_append_left names (name ∷ []) [] entry.group (h 0 (omega arith)) in
    ap (λ (group : List ℕ). record { group = group; rank = entry.rank } ∷ items_of (names ++ name ∷ []) entries) here
    ∙ ap (λ (items : List Item). item_of names entry ∷ items) (items_grown names entries name (λ place l. h (suc place) (omega arith)))

pub items_same : (names : List (List ℕ)) (groups : List GroupView) (entries : List RankedEntry) (name : List ℕ) → IsGrouped names groups entries
    → items_of (names ++ name ∷ []) entries ≡ items_of names entries
items_same names groups entries name g =
    items_grown names entries name
    (λ place l. (found (get_or names (get_or entries place no_entry).group []) names (get_or entries place no_entry).group (g.homes place l).number).within)

pub grown : (names : List (List ℕ)) (groups : List GroupView) (entries : List RankedEntry) (name : List ℕ) (group : GroupView)
    → number_in name names ≡ None → IsEmpty group → IsGrouped names groups entries → IsGrouped (names ++ name ∷ []) (groups ++ group ∷ []) entries
grown names groups entries name group new empty g =
    let items = items_of names entries in
    let same = items_same names groups entries name g in
    record {
      count = let count = g.count in omega (arith, length_push groups group, length_push names name);
      each = λ other k h.
          let is = sym (number_push name other names new) ∙ h in
          subst (λ (items : List Item). IsGroup other items (get_or (groups ++ group ∷ []) k no_group)) (sym same)
          (⊎_elim
          (λ (e : bytes_eq name other ≡ true).
          let last = some_number (bytes_eq name other) (length names) k (number_in other names) e is in
          let count = g.count in
          let here : get_or (groups ++ group ∷ []) k no_group ≡ group = get_or_push groups group no_group k (omega arith) in
          let none = g.absent other (number_same name other names e ∙ new) in
          subst (λ (v : GroupView). IsGroup other items v) (sym here)
          (record { ranks = empty.ranks ∙ none.ranks; places = empty.places ∙ none.places }))
          (λ (e : bytes_eq name other ≡ false).
          let old = sym (cond-false (bytes_eq name other) (Some (length names)) (number_in other names) e) ∙ is in
          let count = g.count in
          let low = (found other names k old).within in
          let here : get_or (groups ++ group ∷ []) k no_group ≡ get_or groups k no_group =
          get_or_append_left groups (group ∷ []) no_group k (omega arith) in
          subst (λ (v : GroupView). IsGroup other items v) (sym here) (g.each other k old))
          (cases_Bool (bytes_eq name other)));
      absent = λ other h.
          let is = sym (number_push name other names new) ∙ h in
          let e = none_is_apart (bytes_eq name other) (length names) (number_in other names) is in
          let old = sym (cond-false (bytes_eq name other) (Some (length names)) (number_in other names) e) ∙ is in
          subst (λ (items : List Item). IsGroup other items no_group) (sym same) (g.absent other old);
      homes = λ place l.
          let entry = get_or entries place no_entry in
          let home = g.homes place l in
          let text = get_or names entry.group [] in
          let low = (found text names entry.group home.number).within in
          let here : get_or (names ++ name ∷ []) entry.group [] ≡ text = get_or_append_left names (name ∷ []) [] entry.group low in
          let other = apart name text names entry.group new home.number in
          let kept : number_in text (names ++ name ∷ []) ≡ Some entry.group =
          number_push name text names new ∙ (cond-false (bytes_eq name text) (Some (length names)) (number_in text names) other ∙ home.number) in
          record {
            number = ap (λ (t : List ℕ). number_in t (names ++ name ∷ [])) here ∙ kept;
            at =
                home.at ∙ ap (λ (t : List ℕ). count_before t items place) (sym here)
                ∙ ap (λ (xs : List Item). count_before (get_or (names ++ name ∷ []) entry.group []) xs place) (sym same);
          };
    }

-- one more item

own_pushed : (name : List ℕ) (items : List Item) (item : Item) (end : ℕ) (old new : GroupView) → end ≡ length items → is_of name item ≡ true
    → new.ranks ≡ old.ranks ++ item.rank ∷ [] → new.places ≡ old.places ++ end ∷ [] → IsGroup name items old → IsGroup name (items ++ item ∷ []) new
own_pushed name items item end old new last e ranks places g = record {
  ranks =
      ranks ∙ (ap (λ (xs : List ℕ). xs ++ item.rank ∷ []) g.ranks
      ∙ sym (ranks_push name items item ∙ cond-true (is_of name item) (ranks_of name items ++ item.rank ∷ []) (ranks_of name items) e));
  places =
      places ∙ (ap (λ (xs : List ℕ). xs ++ end ∷ []) g.places
      ∙ sym (places_push name 0 end items item (omega arith)
      ∙ cond-true (is_of name item) (places_from name 0 items ++ end ∷ []) (places_from name 0 items) e));
}

other_pushed : (name : List ℕ) (items : List Item) (item : Item) (group : GroupView) → is_of name item ≡ false → IsGroup name items group
    → IsGroup name (items ++ item ∷ []) group
other_pushed name items item group e g =
    let end = length items in
    record {
      ranks = g.ranks ∙ sym (ranks_push name items item ∙ cond-false (is_of name item) (ranks_of name items ++ item.rank ∷ []) (ranks_of name items) e);
      places =
          g.places ∙ sym (places_push name 0 end items item (omega arith)
          ∙ cond-false (is_of name item) (places_from name 0 items ++ end ∷ []) (places_from name 0 items) e);
    }

pub items_push : (names : List (List ℕ)) (entries : List RankedEntry) (name : List ℕ) (number at rank : ℕ) → number_in name names ≡ Some number
    → items_of names (entries ++ record { group = number; at = at; rank = rank } ∷ []) ≡ items_of names entries ++ record { group = name; rank = rank } ∷ []
items_push names entries name number at rank h =
    let entry : RankedEntry = record { group = number; at = at; rank = rank } in
    map_push (item_of names) entries entry
    ∙ ap (λ (t : List ℕ). items_of names entries ++ record { group = t; rank = rank } ∷ []) (found name names number h).is

pub pushed : (names : List (List ℕ)) (groups : List GroupView) (entries : List RankedEntry) (name : List ℕ) (number at rank end : ℕ) (group : GroupView)
    → number_in name names ≡ Some number → at ≡ length (get_or groups number no_group).ranks → end ≡ length entries
    → group.ranks ≡ (get_or groups number no_group).ranks ++ rank ∷ [] → group.places ≡ (get_or groups number no_group).places ++ end ∷ []
    → IsGrouped names groups entries → IsGrouped names (set groups number group) (entries ++ record { group = number; at = at; rank = rank } ∷ [])
pushed names groups entries name number at rank end group is count last ranks places g =
    let entry : RankedEntry = record { group = number; at = at; rank = rank } in
    let item : Item = record { group = name; rank = rank } in
    let items = items_of names entries in
    let same = items_push names entries name number at rank is in
    let long : length items ≡ length entries = length-map entries (item_of names) in
    let mine = found name names number is in
    record {
      count = length-set groups number group ∙ g.count;
      each = λ other k h.
          subst (λ (items : List Item). IsGroup other items (get_or (set groups number group) k no_group)) (sym same)
          (⊎_elim
          (λ (e : bytes_eq name other ≡ true).
          let also = number_same name other names e in
          let one : k ≡ number = cc in
          let low = mine.within in
          let counted = g.count in
          let here : get_or (set groups number group) k no_group ≡ group =
          ap (λ (i : ℕ). get_or (set groups number group) i no_group) one ∙ get_or-set_same groups number group no_group (omega arith) in
          let old = subst (λ (i : ℕ). IsGroup other items (get_or groups i no_group)) one (g.each other k h) in
          subst (λ (v : GroupView). IsGroup other (items ++ item ∷ []) v) (sym here)
          (own_pushed other items item end (get_or groups number no_group) group (omega arith) e ranks places old))
          (λ (e : bytes_eq name other ≡ false).
          let here : get_or (set groups number group) k no_group ≡ get_or groups k no_group =
          get_or-set_other groups number k group no_group (numbers_apart name other names number k is h e) in
          subst (λ (v : GroupView). IsGroup other (items ++ item ∷ []) v) (sym here)
          (other_pushed other items item (get_or groups k no_group) e (g.each other k h)))
          (cases_Bool (bytes_eq name other)));
      absent = λ other h.
          subst (λ (items : List Item). IsGroup other items no_group) (sym same)
          (⊎_elim
          (λ (e : bytes_eq name other ≡ true). let also = number_same name other names e in absurd (cc))
          (λ (e : bytes_eq name other ≡ false). other_pushed other items item no_group e (g.absent other h))
          (cases_Bool (bytes_eq name other)));
      homes = λ place l.
          subst (λ (items : List Item). IsHome names items place (get_or (entries ++ entry ∷ []) place no_entry)) (sym same)
          (⊎_elim
          (λ (low : place < length entries).
          let here : get_or (entries ++ entry ∷ []) place no_entry ≡ get_or entries place no_entry =
          get_or_append_left entries (entry ∷ []) no_entry place low in
          let home = g.homes place low in
          subst (λ (x : RankedEntry). IsHome names (items ++ item ∷ []) place x) (sym here)
          (record {
            number = home.number;
            at = home.at ∙ sym (count_push (get_or names (get_or entries place no_entry).group []) items item place (omega arith));
          }))
          (λ (high : length entries ≤ place).
          let longer = length_push entries entry in
          let here : get_or (entries ++ entry ∷ []) place no_entry ≡ entry = get_or_push entries entry no_entry place (omega arith) in
          let spot : place ≡ length items = omega arith in
          let old = g.each name number is in
          subst (λ (x : RankedEntry). IsHome names (items ++ item ∷ []) place x) (sym here)
          (record {
            number = ap (λ (t : List ℕ). number_in t names) mine.is ∙ is;
            at =
                count ∙ ap length old.ranks ∙ sym (count_all name items)
                ∙ sym (count_push name items item (length items) (omega arith))
                ∙ ap (λ (i : ℕ). count_before name (items ++ item ∷ []) i) (sym spot)
                ∙ ap (λ (t : List ℕ). count_before t (items ++ item ∷ []) place) (sym mine.is);
          }))
          (cases_lt place (length entries)));
    }

-- another rank for an item

ranked_items : (names : List (List ℕ)) (entries : List RankedEntry) (place rank : ℕ)
    → items_of names (set entries place (record {
      group = (get_or entries place no_entry).group;
      at = (get_or entries place no_entry).at;
      rank = rank;
    })) ≡ set_rank (items_of names entries) place rank
ranked_items names [] place rank = refl
ranked_items names (entry ∷ entries) zero rank = refl
ranked_items names (entry ∷ entries) (suc place) rank = ap (λ (items : List Item). item_of names entry ∷ items) (ranked_items names entries place rank)

pub items_ranked : (names : List (List ℕ)) (entries : List RankedEntry) (place rank : ℕ) (entry : RankedEntry) → entry ≡ get_or entries place no_entry
    → items_of names (set entries place (record { group = entry.group; at = entry.at; rank = rank })) ≡ set_rank (items_of names entries) place rank
items_ranked names entries place rank entry is =
    ap (λ (x : RankedEntry). items_of names (set entries place (record { group = x.group; at = x.at; rank = rank }))) is
    ∙ ranked_items names entries place rank

pub item_at : (names : List (List ℕ)) (entries : List RankedEntry) (place : ℕ) → place < length entries
    → get_or (items_of names entries) place no_item ≡ item_of names (get_or entries place no_entry)
item_at names entries place l = get_or-map (item_of names) entries place no_entry no_item l

-- an entry's number within its group is one of the group's
pub home_within : (names : List (List ℕ)) (groups : List GroupView) (entries : List RankedEntry) (place : ℕ) → place < length entries
    → IsGrouped names groups entries
    → ((get_or entries place no_entry).group < length groups)
    × ((get_or entries place no_entry).at < length (get_or groups (get_or entries place no_entry).group no_group).ranks)
home_within names groups entries place l g =
    let entry = get_or entries place no_entry in
    let items = items_of names entries in
    let home = g.homes place l in
    let text = get_or names entry.group [] in
    let low = (found text names entry.group home.number).within in
    let count = g.count in
    let ranks = ap length (g.each text entry.group home.number).ranks in
    let long : length items ≡ length entries = length-map entries (item_of names) in
    let own : is_of text (get_or items place no_item) ≡ true =
    ap (λ (item : Item). is_of text item) (item_at names entries place l) ∙ (bytes_eq-Decides text text).1 refl in
    let within = count_within text items place (omega arith) own in
    let at = home.at in
    (omega arith, omega arith)

pub ranked : (names : List (List ℕ)) (groups : List GroupView) (entries : List RankedEntry) (place rank : ℕ) (entry : RankedEntry) (group : GroupView)
    → place < length entries → entry ≡ get_or entries place no_entry → group.ranks ≡ set (get_or groups entry.group no_group).ranks entry.at rank
    → group.places ≡ (get_or groups entry.group no_group).places → IsGrouped names groups entries
    → IsGrouped names (set groups entry.group group) (set entries place (record { group = entry.group; at = entry.at; rank = rank }))
ranked names groups entries place rank entry group l read ranks places g =
    let new : RankedEntry = record { group = entry.group; at = entry.at; rank = rank } in
    let items = items_of names entries in
    let changed = set_rank items place rank in
    let same = items_ranked names entries place rank entry read in
    let long : length items ≡ length entries = length-map entries (item_of names) in
    let home : IsHome names items place entry = subst (λ (x : RankedEntry). IsHome names items place x) (sym read) (g.homes place l) in
    let text = get_or names entry.group [] in
    let item : get_or items place no_item ≡ item_of names entry = item_at names entries place l ∙ ap (item_of names) (sym read) in
    let within : entry.group < length groups =
    subst (λ (x : RankedEntry). x.group < length groups) (sym read) (home_within names groups entries place l g).0 in
    record {
      count = length-set groups entry.group group ∙ g.count;
      each = λ other k h.
          let old = g.each other k h in
          subst (λ (items : List Item). IsGroup other items (get_or (set groups entry.group group) k no_group)) (sym same)
          (⊎_elim
          (λ (e : bytes_eq text other ≡ true).
          let also = number_same text other names e in
          let first = home.number in
          let one : k ≡ entry.group = cc in
          let own : is_of other (get_or items place no_item) ≡ true = ap (λ (i : Item). is_of other i) item ∙ e in
          let text_same : text ≡ other = (bytes_eq-Decides text other).0 e in
          let here : get_or (set groups entry.group group) k no_group ≡ group =
          ap (λ (i : ℕ). get_or (set groups entry.group group) i no_group) one ∙ get_or-set_same groups entry.group group no_group within in
          let mine = subst (λ (i : ℕ). IsGroup other items (get_or groups i no_group)) one old in
          subst (λ (v : GroupView). IsGroup other changed v) (sym here)
          (record {
            ranks =
                ranks ∙ (ap (λ (xs : List ℕ). set xs entry.at rank) mine.ranks
                ∙ (ap (λ (i : ℕ). set (ranks_of other items) i rank) (home.at ∙ ap (λ (t : List ℕ). count_before t items place) text_same)
                ∙ sym (ranks_set other items place rank (omega arith) own)));
            places = places ∙ (mine.places ∙ sym (places_set other 0 items place rank));
          }))
          (λ (e : bytes_eq text other ≡ false).
          let own : is_of other (get_or items place no_item) ≡ false = ap (λ (i : Item). is_of other i) item ∙ e in
          let here : get_or (set groups entry.group group) k no_group ≡ get_or groups k no_group =
          get_or-set_other groups entry.group k group no_group (numbers_apart text other names entry.group k home.number h e) in
          subst (λ (v : GroupView). IsGroup other changed v) (sym here)
          (record { ranks = old.ranks ∙ sym (ranks_other other items place rank own); places = old.places ∙ sym (places_set other 0 items place rank) }))
          (cases_Bool (bytes_eq text other)));
      absent = λ other h.
          let old = g.absent other h in
          subst (λ (items : List Item). IsGroup other items no_group) (sym same)
          (⊎_elim
          (λ (e : bytes_eq text other ≡ true). let also = number_same text other names e in let first = home.number in absurd (cc))
          (λ (e : bytes_eq text other ≡ false).
          let own : is_of other (get_or items place no_item) ≡ false = ap (λ (i : Item). is_of other i) item ∙ e in
          record { ranks = old.ranks ∙ sym (ranks_other other items place rank own); places = old.places ∙ sym (places_set other 0 items place rank) })
          (cases_Bool (bytes_eq text other)));
      homes = λ i below.
          let low : i < length entries = omega (arith, length-set entries place new) in
          let was = g.homes i low in
          let kept : IsHome names changed i (get_or entries i no_entry) = record {
            number = was.number;
            at = was.at ∙ sym (count_set (get_or names (get_or entries i no_entry).group []) items place rank i);
          } in
          subst (λ (items : List Item). IsHome names items i (get_or (set entries place new) i no_entry)) (sym same)
          (⊎_elim
          (λ (e : i ≡ place).
          let here : get_or (set entries place new) i no_entry ≡ new =
          ap (λ (j : ℕ). get_or (set entries place new) j no_entry) e ∙ get_or-set_same entries place new no_entry l in
          let found_here = subst (λ (j : ℕ). IsHome names changed i (get_or entries j no_entry)) e kept in
          let at_place = subst (λ (x : RankedEntry). IsHome names changed i x) (sym read) found_here in
          subst (λ (x : RankedEntry). IsHome names changed i x) (sym here) (record { number = at_place.number; at = at_place.at }))
          (λ (e : i ≢ place).
          subst (λ (x : RankedEntry). IsHome names changed i x) (sym (get_or-set_other entries place i new no_entry e)) kept)
          (cases_eq i place));
    }

-- the same groups with other room

pub roomier : (names names' : List (List ℕ)) (groups old new : List GroupView) (entries entries' : List RankedEntry) → names' ≡ names → old ≡ groups
    → AreSame old new → entries' ≡ entries → IsGrouped names groups entries → IsGrouped names' new entries'
roomier names names' groups old new entries entries' same_names same_groups same same_entries g =
    subst (λ (ns : List (List ℕ)). IsGrouped ns new entries') (sym same_names)
    (subst (λ (es : List RankedEntry). IsGrouped names new es) (sym same_entries)
    (let was : IsGrouped names old entries = subst (λ (gs : List GroupView). IsGrouped names gs entries) (sym same_groups) g in
    record {
      count = same.length ∙ was.count;
      each = λ name k h. let each = was.each name k h in record { ranks = same.ranks k ∙ each.ranks; places = same.places k ∙ each.places };
      absent = was.absent;
      homes = was.homes;
    }))
