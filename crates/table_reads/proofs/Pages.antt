-- First pages: one that has all items, and one that more items follow.
use Rattle.std.proofs.Common.{◌≡◌, ℕ, ◌≤◌, true, List, ◌∷◌, ◌++◌, length, take, nat_lt, None, refl, sym, ap, ◌∙◌, arith}
use Rattle.std.proofs.Math.Seq.{take-append_seam}
use Rattle.std.proofs.lemmas.Bool.{lt-ltb, le-ltb}
use Rattle.std.proofs.lemmas.List.{take_all, length-append}
use Rattle.bt_rows.specs.declared.reply.Item.{Item}
use Rattle.bt_rows.specs.declared.reply.Reply.TheVariants as replies
use Rattle.table_reads.specs.Pages.{last_id, first_page}

pub page_whole : (count : ℕ) (all : List Item) → length all ≤ count → first_page count all ≡ replies.Page all None
page_whole count all h = rw (take_all count all h, le-ltb count (length all) h) refl

pub page_cut : (count : ℕ) (shown more : List Item) (next : Item) → length shown ≡ count →
    first_page count (shown ++ next ∷ more) ≡ replies.Page shown (last_id shown)
page_cut count shown more next h =
    let cut : take count (shown ++ next ∷ more) ≡ shown = ap (λ n. take n (shown ++ next ∷ more)) (sym h) ∙ take-append_seam shown (next ∷ more) in
    let total = length-append shown (next ∷ more) in
    let long : nat_lt count (length (shown ++ next ∷ more)) ≡ true = lt-ltb _ _ (omega (arith, total, h)) in
    rw (cut, long) refl
