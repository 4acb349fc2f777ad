-- Puts of preparations change those preparations in their places.
use Rattle.std.proofs.Common.{◌≡◌, ℕ, Bool, true, ◌&&◌, List, [], ◌∷◌, ◌++◌, Option, Some, None, nat_eq, refl, sym, ◌∙◌, ap}
use Rattle.std.specs.Cmp.{nat_eq_equiv}
use Rattle.std.specs.List.{find}
use Rattle.std.specs.Option.{option_map}
use Rattle.bt_base.specs.Ids.{same}
use Rattle.bt_base.proofs.SameIds.{same_equiv}
use Rattle.bt_rows.specs.Changes.{apply_change, apply_changes}
use Rattle.bt_rows.specs.Lists.{AreDistinct}
use Rattle.bt_rows.specs.Keys.{same_prep, same_prep_equiv}
use Rattle.bt_rows.specs.declared.tables.Change.TheVariants.{PutPrep}
use Rattle.bt_rows.proofs.DistinctRows.{found_first}
use Rattle.batch_model.specs.Finding.{names, only_if}
use Rattle.batch_model.specs.Preps.{change_prep}
use Rattle.batch_model.specs.Rows.{is_prep, prep_of, change_preps}
use Rattle.batch_model.specs.Runs.{is_at_prep}
use Rattle.batch_model.specs.Variants.{State, RunRow, PrepRow}
use Rattle.model_lists.proofs.Putting.{put_row-found, any-not_found, change_where-none}
use Rattle.model_lists.proofs.RowLists.{find_test}
use Rattle.model_lists.proofs.Tests.{and_first, and_second}
use Rattle.row_changes.specs.Puts.{puts_of, put_if_some}
use Rattle.row_changes.proofs.PutsInPlace.{put_if_some as put_row_if_some, put_each, put_is_change_where}

-- what each row of a list gives

preps_cons : (give : PrepRow → Option PrepRow) (o : Option PrepRow) (rest : List PrepRow) (s : State) → ((t : State) → apply_changes (puts_of PutPrep give rest) t ≡ record t { preps = put_each same_prep give rest t.preps }) → apply_changes (put_if_some PutPrep o ++ puts_of PutPrep give rest) s ≡ record s { preps = put_each same_prep give rest (put_row_if_some same_prep o s.preps) }
preps_cons give None rest s ih = ih s
preps_cons give (Some row) rest s ih = ih (apply_change (PutPrep row) s)

pub preps_put : (give : PrepRow → Option PrepRow) (preps : List PrepRow) (s : State) → apply_changes (puts_of PutPrep give preps) s ≡ record s { preps = put_each same_prep give preps s.preps }
preps_put give [] s = refl
preps_put give (prep ∷ preps) s = preps_cons give (give prep) preps s (preps_put give preps)

-- the preparations that pass a test are changed, if no two have the same key and the change keeps keys
pub preps_changed : (test : PrepRow → Bool) (change : PrepRow → PrepRow) → ((prep other : PrepRow) → same_prep other (change prep) ≡ same_prep other prep)
    → (s : State) → AreDistinct same_prep s.preps
    → apply_changes (puts_of PutPrep (λ prep. only_if (test prep) (Some (change prep))) s.preps) s ≡ change_preps test change s
preps_changed test change keeps s d =
    preps_put (λ prep. only_if (test prep) (Some (change prep))) s.preps s
    ∙ ap (λ preps. record s { preps = preps }) (put_is_change_where same_prep same_prep_equiv test change keeps s.preps d)

-- one preparation

-- the preparation that a search finds is the one with its job and node
pub own_prep : (test : PrepRow → Bool) (prep : PrepRow) (s : State) → AreDistinct same_prep s.preps → find test s.preps ≡ Some prep
    → prep_of s prep.job prep.node ≡ Some prep
own_prep test prep s d e = found_first same_prep same_prep_equiv test prep s.preps d e

-- it is changed in its place
pub prep_changed : (prep : PrepRow) (change : PrepRow → PrepRow) → ((other : PrepRow) → same_prep other (change prep) ≡ same_prep other prep)
    → (s : State) → AreDistinct same_prep s.preps → prep_of s prep.job prep.node ≡ Some prep
    → apply_change (PutPrep (change prep)) s ≡ change_prep prep change s
prep_changed prep change keeps s d there =
    ap (λ preps. record s { preps = preps })
    (put_row-found same_prep same_prep_equiv (is_prep prep.job prep.node) change prep (λ x. refl) keeps s.preps d there)

-- the preparations that pass a test are one at most, since all that pass have the same key: it is changed, if it is there
pub found_prep_changed : (test : PrepRow → Bool) (change : PrepRow → PrepRow)
    → ((prep other : PrepRow) → same_prep other (change prep) ≡ same_prep other prep)
    → ((prep other : PrepRow) → test prep ≡ true → test other ≡ same_prep other prep)
    → (s : State) → AreDistinct same_prep s.preps → (found : Option PrepRow) → find test s.preps ≡ found
    → apply_changes (put_if_some PutPrep (option_map change found)) s ≡ change_preps test change s
found_prep_changed test change keeps key s d None e =
    ap (λ preps. record s { preps = preps }) (sym (change_where-none test change s.preps (any-not_found test s.preps e)))
found_prep_changed test change keeps key s d (Some prep) e =
    ap (λ preps. record s { preps = preps })
    (put_row-found same_prep same_prep_equiv test change prep (λ other. key prep other (find_test test prep s.preps e)) (keeps prep) s.preps d e)

-- the preparations of a run's job on its node have one key

-- the id that the option holds is that of a row
pub names_same : (name : Option (List ℕ)) (id other : List ℕ) → names name id ≡ true → names name other ≡ same other id
names_same None id other h = cc
names_same (Some name) id other h = same_equiv.congr name id other h ∙ same_equiv.symm id other

pub at_prep_key : (run : RunRow) (prep other : PrepRow) → is_at_prep prep run ≡ true → is_at_prep other run ≡ same_prep other prep
at_prep_key run prep other h =
    let job = names_same run.job prep.job other.job (and_first (names run.job prep.job) (nat_eq run.node prep.node) h) in
    let node = nat_eq_equiv.congr run.node prep.node other.node (and_second (names run.job prep.job) (nat_eq run.node prep.node) h) ∙ nat_eq_equiv.symm prep.node other.node in
    ap (λ b. b && nat_eq run.node other.node) job ∙ ap (λ b. same other.job prep.job && b) node
