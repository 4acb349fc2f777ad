use Rattle.std.proofs.Common.{refl}
use Rattle.bt_base.specs.Ids.{same}
use Rattle.bt_base.specs.Numbers.{bounded, number_text, fraction_text, decimals, zeros, millionths_of, read_number, is_digits}
use Rattle.bt_base.specs.Utf8.{utf8_text}
use Rattle.bt_base.specs.DeallocOptions.{option_word, option_named}
use Rattle.formula_trees.specs.Pieces.{piece_at}
use Rattle.formula_trees.specs.Names.{metric_named, interval_named, is_option_word, setting_named, function_named, method_named, member_named, fixed_type, is_read_only}
use Rattle.formula_types.specs.Compiling.{compiled}
use Rattle.formula_eval.specs.Results.{settings_text, error_text}
use Rattle.batch_model.specs.Formulas.{formula_ran, formula_refusal}
use Rattle.model_scripts.proofs.scaling.a_fault_leaves_the_pool.Goals as goal

pub returns-clause-lines : goal.returns-clause-lines
unfolding same bounded number_text fraction_text decimals zeros millionths_of read_number is_digits utf8_text option_word option_named piece_at metric_named interval_named is_option_word setting_named function_named method_named member_named fixed_type is_read_only compiled settings_text error_text formula_ran formula_refusal
returns-clause-lines c = refl
