-- How much of a list a query asks for.
use Rattle.std.specs.Prelude.{ℕ, List, length, Option, Some, None, Result, Ok, Err, nat_lt, if◌then◌else◌}
use Rattle.std.specs.Option.{option_and_then}
use Rattle.std.specs.Result.{result_ok}
use Rattle.bt_base.specs.Fails.{◌>>=◌}
use Rattle.bt_base.specs.Ids.{within, read_id}
use Rattle.bt_rows.specs.Names.{member_text}
use Rattle.bt_rows.specs.declared.member.Member.TheVariants as names
use Rattle.bt_rows.specs.declared.refusal.Refusal.{Refusal}
use Rattle.bt_base.specs.Digits.{number_in}
use Rattle.wire_members.specs.Members.{or_invalid}
use Rattle.table_reads.specs.declared.request.Listing.{Listing}
use Rattle.table_reads.specs.declared.request.TheConstants.{MAX_RESULTS}
use Rattle.http_routes.specs.Targets.{value_in}
use Rattle.http_requests.specs.declared.listing.TheConstants.{DIGIT_LIMIT}

-- a number of elements that one read shows
abbrev pub if_shown : ℕ → Option ℕ
if_shown n = if within 1 MAX_RESULTS n then Some n else None

-- 1 to 20 digits with such a value
abbrev pub count_in : List ℕ → Option ℕ
count_in text = if nat_lt DIGIT_LIMIT (length text) then None else option_and_then if_shown (number_in text)

-- the value of `maxresults`; without it the list has as many elements as one read shows
abbrev pub count_if : Option (List ℕ) → Result ℕ Refusal
count_if None = Ok MAX_RESULTS
count_if (Some text) = or_invalid names.MaxResults (count_in text)

-- the value of `after`
abbrev pub after_if : Option (List ℕ) → Result (Option (List ℕ)) Refusal
after_if None = Ok None
after_if (Some text) = or_invalid names.After (result_ok (read_id text)) >>= λ id. Ok (Some id)

-- the first `maxresults` of the query, and then the first `after`
unfoldable pub listing_of : List ℕ → Result Listing Refusal
listing_of query = do
  count ← count_if (value_in (member_text names.MaxResults) query)
  after ← after_if (value_in (member_text names.After) query)
  Ok (record { count = count; after = after })
