-- Words whose texts were worked out by hand, computed; and that no name is a prefix of another.
use Rattle.std.proofs.Common.{◌≡◌, ℕ, List, [], ◌∷◌, Some, None, map, filter, length, nat_eq, refl}
use Rattle.std.specs.Prelude.{codes}
use Rattle.std.specs.List.{starts_with}
use Rattle.child_words.specs.declared.instances.Instance.{Instance}
use Rattle.child_words.specs.declared.names.Name.{Name}
use Rattle.child_words.specs.declared.names.Names.{Names}
use Rattle.child_words.specs.Names.{name_text, all_names}
use Rattle.child_words.specs.Filling.{fill_word}
use Rattle.child_words.specs.Instances.{in_order}

-- how many names the name begins with
prefix_count : Name → ℕ
prefix_count name = length (filter (λ other. starts_with nat_eq (name_text name) (name_text other)) all_names)

-- each begins with itself alone
names_apart : map prefix_count all_names ≡ 1 ∷ 1 ∷ 1 ∷ 1 ∷ 1 ∷ 1 ∷ []
unfolding prefix_count name_text
names_apart = refl

-- texts for the pool, the node and the job alone; that for the job ends as a name begins
some_names : Names
some_names = record {
  pool = Some (codes "$AZ_BATCH_NODE_ID");
  node = Some (codes "node-1");
  job = Some (codes "$AZ_BATCH_NODE");
  task = None;
  node_list = None;
  is_master = None;
}

filled : List ℕ → List ℕ
filled word = fill_word some_names word

-- in turn: a name alone; two names and a rest; a name without a text; a name and a letter; a prefix of a name; a text that is a name; a text that makes a
-- name with what follows it; a dollar sign before a name
words_filled : map filled
    (codes "$AZ_BATCH_NODE_ID" ∷ codes "a$AZ_BATCH_NODE_ID$AZ_BATCH_NODE_ID.b" ∷ codes "$AZ_BATCH_TASK_ID" ∷ codes "$AZ_BATCH_NODE_IDX" ∷
    codes "$AZ_BATCH_NODE_I" ∷ codes "$AZ_BATCH_POOL_ID" ∷ codes "$AZ_BATCH_JOB_ID_ID" ∷ codes "$$AZ_BATCH_NODE_ID" ∷ []) ≡
    codes "node-1" ∷ codes "anode-1node-1.b" ∷ codes "$AZ_BATCH_TASK_ID" ∷ codes "node-1X" ∷
    codes "$AZ_BATCH_NODE_I" ∷ codes "$AZ_BATCH_NODE_ID" ∷ codes "$AZ_BATCH_NODE_ID" ∷ codes "$node-1" ∷ []
unfolding filled some_names fill_word name_text
words_filled = refl

instance_at : ℕ → ℕ → Instance
instance_at number on = record { run = number; node = on }

instances_ordered : in_order (instance_at 7 1 ∷ instance_at 5 3 ∷ instance_at 9 2 ∷ instance_at 6 4 ∷ []) ≡
    instance_at 5 3 ∷ instance_at 6 4 ∷ instance_at 7 1 ∷ instance_at 9 2 ∷ []
unfolding instance_at
instances_ordered = refl
