-- Exit conditions of tasks: what is listed for single codes, for ranges of codes, for launch errors, and for every other ending.
use Rattle.std.specs.Prelude.{ℤ, pos, negsuc, Option, Some, None, Result, Ok, option_map}
use Rattle.serde_json.specs.Data.{Data}
use Rattle.bt_base.specs.Fails.{◌>>=◌}
use Rattle.bt_rows.specs.declared.member.Member.{Member}
use Rattle.bt_rows.specs.declared.member.Member.TheVariants as names
use Rattle.bt_rows.specs.declared.task.Given.{Given}
use Rattle.bt_rows.specs.declared.refusal.Refusal.{Refusal}
use Rattle.wire_members.specs.Members.{word_if, required_signed, object_member, required_object, list_member, object_item}
use Rattle.wire_members.specs.Words.{job_action_word, dependency_word, is_satisfying}
use Rattle.wire_bodies.specs.declared.exit_conditions.Conditions.{Conditions}
use Rattle.wire_bodies.specs.Items.{items_in}

-- an exit code, of 32 bits
abbrev pub code_member : Data → Member → Result ℤ Refusal
code_member d name = required_signed (Some d) name (negsuc 2147483647) (pos 2147483647)

-- the exit options that the members of an object are; each may be absent
unfoldable pub options_in : Data → Result Given Refusal
options_in d = do
  action ← word_if job_action_word (Some d) names.JobAction
  dependents ← word_if dependency_word (Some d) names.DependencyAction
  Ok (record { job = action; satisfies = option_map is_satisfying dependents })

-- exit options, if their object is there
unfoldable pub options_of : Option Data → Result (Option Given) Refusal
options_of None = Ok None
options_of (Some d) = do
  options ← options_in d
  Ok (Some options)

-- the options of a member that is an object; they are required
unfoldable pub required_options : Data → Result Given Refusal
required_options d = do
  part ← required_object (Some d) names.ExitOptions
  options_in part

-- an item of `exitCodes`: a code and its options
unfoldable pub code_item : Member → Data → Result (ℤ × Given) Refusal
code_item name d = do
  members ← object_item d name
  code ← code_member members names.Code
  options ← required_options members
  Ok (code, options)

-- an item of `exitCodeRanges`: the first and the last code, and their options; a range whose first code is above its last holds none
unfoldable pub range_item : Member → Data → Result (ℤ × ℤ × Given) Refusal
range_item name d = do
  members ← object_item d name
  first ← code_member members names.Start
  last ← code_member members names.End
  options ← required_options members
  Ok (first, last, options)

-- the members of the object in this order; an absent object has none
unfoldable pub conditions_in : Option Data → Result Conditions Refusal
conditions_in part = do
  code_items ← list_member part names.ExitCodes
  codes ← items_in (code_item names.ExitCodes) code_items
  range_items ← list_member part names.ExitCodeRanges
  ranges ← items_in (range_item names.ExitCodeRanges) range_items
  launch_part ← object_member part names.PreProcessingError
  launch ← options_of launch_part
  other_part ← object_member part names.Default
  other ← options_of other_part
  Ok (record { codes = codes; ranges = ranges; launch = launch; other = other })
