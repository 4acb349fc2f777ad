-- Elements of a collection, answered one by one, and the puts of the tasks that they add.
use Rattle.std.proofs.Common.{◌≡◌, ◌<◌, ◌+◌, ℕ, Bool, true, false, ◌||◌, List, [], ◌∷◌, ◌++◌, map, length, get_or, drop, Option, Some, None, is_some, cond, refl, sym, ◌∙◌, ap, subst, append_assoc, Bor}
use Rattle.std.specs.List.{list_any, find}
use Rattle.std.specs.Option.{option_copied}
use Rattle.std.proofs.lemmas.List.{append-nil, drop_more}
use Rattle.std.proofs.lemmas.List.Folds.{list_any-append}
use Rattle.bt_rows.specs.Changes.{apply_change, apply_changes}
use Rattle.bt_rows.specs.declared.event.TaskSpec.{TaskSpec}
use Rattle.bt_rows.specs.declared.refusal.Refusal.{Refusal}
use Rattle.bt_rows.specs.declared.refusal.Refusal.TheVariants.{TaskExists}
use Rattle.bt_rows.specs.declared.reply.Element.{Element}
use Rattle.bt_rows.specs.declared.tables.Change.{Change}
use Rattle.bt_rows.specs.declared.tables.Change.TheVariants.{PutTask}
use Rattle.batch_model.specs.Events.{add_each, element_of, after_element, task_refusals}
use Rattle.batch_model.specs.Finding.{or_else, only_if, first_of}
use Rattle.batch_model.specs.NotBuilt.{not_built}
use Rattle.batch_model.specs.Rows.{task_of}
use Rattle.batch_model.specs.Tasks.{new_task}
use Rattle.batch_model.specs.Variants.{State, JobRow, TaskRow}
use Rattle.machine_plans.proofs.EventPuts.{task_put}
use Rattle.task_requests.specs.Collections.{with_tasks, added_by, refusal_beside, IsAnswered, IsAnsweredTo}

-- looking for a row of two lists

module _ {R : Type 0} (test : R → Bool) where
  found_cons : (x : R) (o : Option R) (rest b : Bool) → is_some o ≡ rest → is_some (cond b (Some x) o) ≡ (b || rest)
  found_cons x o rest true h = refl
  found_cons x o rest false h = h

  -- a row is found if one passes the test
  pub found_any : (xs : List R) → is_some (find test xs) ≡ list_any test xs
  found_any [] = refl
  found_any (x ∷ xs) = found_cons x (find test xs) (list_any test xs) (test x) (found_any xs)

  some_copied : (o : Option (Bor R)) → is_some o ≡ is_some (option_copied o)
  some_copied None = refl
  some_copied (Some row) = refl

  -- and so if a reference to one is found
  pub found_ref : (o : Option (Bor R)) (xs : List R) → option_copied o ≡ find test xs → is_some o ≡ list_any test xs
  found_ref o xs e = some_copied o ∙ ap is_some e ∙ found_any xs

  either : (xs ys : List R) → is_some (find test (xs ++ ys)) ≡ (list_any test xs || list_any test ys)
  either xs ys = found_any (xs ++ ys) ∙ list_any-append test xs ys

  -- a row of the first list passes
  pub found_first : (xs ys : List R) → list_any test xs ≡ true → is_some (find test (xs ++ ys)) ≡ true
  found_first xs ys h = either xs ys ∙ ap (λ b. b || list_any test ys) h

  -- no row of the first list passes
  pub found_second : (xs ys : List R) → list_any test xs ≡ false → is_some (find test (xs ++ ys)) ≡ list_any test ys
  found_second xs ys h = either xs ys ∙ ap (λ b. b || list_any test ys) h

-- the first of several refusals is none

not_refused : (b : Bool) (refusal : Refusal) (others : Option Refusal) → or_else (only_if b (Some refusal)) others ≡ None → b ≡ false
not_refused true refusal others h = cc
not_refused false refusal others h = refl

-- and then none of those after it stands
none_after : (b : Bool) (refusal : Refusal) (others : Option Refusal) → or_else (only_if b (Some refusal)) others ≡ None → others ≡ None
none_after true refusal others h = cc
none_after false refusal others h = h

-- a task that is not refused is new
pub is_new : (s : State) (job : JobRow) (spec : TaskSpec) → first_of (task_refusals s job spec) ≡ None → is_some (task_of s job.id spec.id) ≡ false
is_new s job spec h = not_refused (is_some (task_of s job.id spec.id)) TaskExists _ (none_after (is_some spec.multi) not_built _ h)

-- puts one after the other

map-append_put : (added : List TaskRow) (task : TaskRow) → map PutTask (added ++ task ∷ []) ≡ map PutTask added ++ PutTask task ∷ []
map-append_put [] task = refl
map-append_put (one ∷ added) task = ap (λ changes. PutTask one ∷ changes) (map-append_put added task)

apply_append : (changes : List Change) (change : Change) (s : State) → apply_changes (changes ++ change ∷ []) s ≡ apply_change change (apply_changes changes s)
apply_append [] change s = refl
apply_append (one ∷ changes) change s = apply_append changes change (apply_change one s)

-- one task more after the others
one_more : (s : State) (added : List TaskRow) (task : TaskRow) → with_tasks (added ++ task ∷ []) s ≡ with_tasks (task ∷ []) (with_tasks added s)
one_more s added task = ap (λ tasks. record s { tasks = tasks }) (sym (append_assoc s.tasks added (task ∷ [])))

-- the put of a new task after the others
put_more : (s : State) (added : List TaskRow) (task : TaskRow) → is_some (task_of (with_tasks added s) task.job task.id) ≡ false → apply_changes (map PutTask added) s ≡ with_tasks added s → apply_changes (map PutTask (added ++ task ∷ [])) s ≡ with_tasks (added ++ task ∷ []) s
put_more s added task new puts =
    ap (λ changes. apply_changes changes s) (map-append_put added task)
    ∙ (apply_append (map PutTask added) (PutTask task) s
    ∙ (ap (apply_change (PutTask task)) puts
    ∙ (task_put task (with_tasks added s) new ∙ sym (one_more s added task))))

-- the elements one by one

-- no element is answered yet
pub none_answered : (s : State) (job : JobRow) (specs : List TaskSpec) → IsAnsweredTo s job specs specs [] []
none_answered s job specs = record {
  elements = ap (λ t. (add_each t job specs).elements) (same s);
  state = ap (λ t. (add_each t job specs).state) (same s);
  puts = sym (same s);
}
  where
    same : (t : State) → with_tasks [] t ≡ t
    same t = ap (λ tasks. record t { tasks = tasks }) (append-nil t.tasks)

-- all elements are answered
pub all_answered : (s : State) (job : JobRow) (specs : List TaskSpec) (answers : List Element) (added : List TaskRow) → IsAnsweredTo s job specs [] answers added → IsAnswered s job specs answers added
all_answered s job specs answers added h = record {
  elements = sym (append-nil answers) ∙ h.elements;
  state = h.puts ∙ h.state;
}

-- the next element is answered, refused or not
answered_by : (s : State) (job : JobRow) (specs rest : List TaskSpec) (answers : List Element) (added : List TaskRow) (spec : TaskSpec) (refusal : Option Refusal) → refusal_beside added s job spec ≡ refusal → IsAnsweredTo s job specs (spec ∷ rest) answers added → IsAnsweredTo s job specs rest (answers ++ element_of spec refusal ∷ []) (added ++ added_by job spec refusal)
answered_by s job specs rest answers added spec None e h =
    let task = new_task job.id spec in
    let t = with_tasks added s in
    record {
      elements = append_assoc answers (element_of spec None ∷ []) (add_each (with_tasks (added ++ task ∷ []) s) job rest).elements
          ∙ (ap (λ u. answers ++ element_of spec None ∷ (add_each u job rest).elements) (one_more s added task)
          ∙ (ap (λ r. answers ++ element_of spec r ∷ (add_each (after_element t job spec r) job rest).elements) (sym e) ∙ h.elements));
      state = ap (λ u. (add_each u job rest).state) (one_more s added task)
          ∙ (ap (λ r. (add_each (after_element t job spec r) job rest).state) (sym e) ∙ h.state);
      puts = put_more s added task (is_new t job spec e) h.puts;
    }
answered_by s job specs rest answers added spec (Some refusal) e h =
    let t = with_tasks added s in
    rw append-nil
    (record {
      elements = append_assoc answers (element_of spec (Some refusal) ∷ []) (add_each t job rest).elements
          ∙ (ap (λ r. answers ++ element_of spec r ∷ (add_each (after_element t job spec r) job rest).elements) (sym e) ∙ h.elements);
      state = ap (λ r. (add_each (after_element t job spec r) job rest).state) (sym e) ∙ h.state;
      puts = h.puts;
    })

pub next_answered : (s : State) (job : JobRow) (specs rest : List TaskSpec) (answers : List Element) (added : List TaskRow) (spec : TaskSpec) → IsAnsweredTo s job specs (spec ∷ rest) answers added → IsAnsweredTo s job specs rest (answers ++ element_of spec (refusal_beside added s job spec) ∷ []) (added ++ added_by job spec (refusal_beside added s job spec))
next_answered s job specs rest answers added spec h =
    answered_by s job specs rest answers added spec (refusal_beside added s job spec) refl h

-- the element at an index is the next of those that are left
pub answered_at : (s : State) (job : JobRow) (specs : List TaskSpec) (i : ℕ) (answers : List Element) (added : List TaskRow) (spec : TaskSpec) (answers_after : List Element) (added_after : List TaskRow) → i < length specs → spec ≡ get_or specs i spec → answers_after ≡ answers ++ element_of spec (refusal_beside added s job spec) ∷ [] → added_after ≡ added ++ added_by job spec (refusal_beside added s job spec) → IsAnsweredTo s job specs (drop i specs) answers added → IsAnsweredTo s job specs (drop (i + 1) specs) answers_after added_after
answered_at s job specs i answers added spec answers_after added_after within is_at one more h =
    rw (one, more)
    (next_answered s job specs (drop (i + 1) specs) answers added spec
    (subst (λ rest. IsAnsweredTo s job specs rest answers added)
    (drop_more specs i spec within ∙ ap (λ next. next ∷ drop (i + 1) specs) (sym is_at)) h))
