use Rattle.std.proofs.Common.{refl}
use Rattle.std.specs.Str.{is_utf8, chars}
use Rattle.std.specs.Char.{encode_utf8}
use Rattle.base_tests.proofs.option_words_tests.options_in_both_forms.Goals as goal

-- the words of the test are UTF-8
pub read_options-requires-clause-texts : goal.read_options-requires-clause-texts
unfolding is_utf8 chars encode_utf8
read_options-requires-clause-texts g c = refl
