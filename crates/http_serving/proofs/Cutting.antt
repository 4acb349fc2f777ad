-- Texts that were not written whole.
use Rattle.std.proofs.Common.{◌≡◌, ◌<◌, ◌+◌, ◌⊎◌, ℕ, Bool, List, [], ◌++◌, length, Option, codes, decimal, refl, sym, subst, inl, inr, arith}
use Rattle.std.proofs.lemmas.List.{length-append}
use Rattle.byte_streams.proofs.Gaining.{gains_nothing}
use Rattle.http_link.specs.Writing.{GainsPart}
use Rattle.http_serving.specs.declared.end.End.{End}
use Rattle.http_serving.specs.declared.end.End.TheVariants.{BadHead, BadFraming, OriginRefused, HeadTooLong, BodyTooLong}
use Rattle.http_serving.specs.declared.response.Response.{Response}
use Rattle.http_serving.specs.Responses.{joined_text, text_of, end_text}
use Rattle.http_serving.specs.Connection.{AnswerCut}

-- no text of a response is empty
joined_some : (status : ℕ) (phrase type size extra content : List ℕ) → 0 < length (joined_text status phrase type size extra content)
unfolding joined_text
joined_some status phrase type size extra content =
    let version : length (codes "HTTP/1.1 ") ≡ 9 = refl in
    let rest = decimal status ++ (codes " " ++ (phrase ++ (codes "\r\n" ++ (type ++ (size ++ (extra ++ (codes "\r\n" ++ content))))))) in
    omega (arith, version, length-append (codes "HTTP/1.1 ") rest)

-- nothing was written of it
none_of : (taken : Option (List ℕ)) (text : List ℕ) → 0 < length text → GainsPart taken taken text
none_of taken text some = record { front = []; rest = text; cut = refl; missing = some; gained = gains_nothing taken }

pub none_of_response : (taken : Option (List ℕ)) (to_head : Bool) (response : Response) → GainsPart taken taken (text_of to_head response)
none_of_response taken to_head response = none_of taken (text_of to_head response) (joined_some _ _ _ _ _ _)

none_of_end : (taken : Option (List ℕ)) (end : End) → GainsPart taken taken (end_text end)
none_of_end taken end = none_of taken (end_text end) (joined_some _ _ _ _ _ _)

-- nothing was written of the answer before an end that has one
pub answer_unwritten : (taken : Option (List ℕ)) (end : End) → (end ≡ BadHead) ⊎ ((end ≡ BadFraming) ⊎ ((end ≡ OriginRefused) ⊎ ((end ≡ HeadTooLong) ⊎ (end ≡ BodyTooLong)))) → AnswerCut end taken taken
answer_unwritten taken end (inl e) = subst (λ x. AnswerCut x taken taken) (sym e) (none_of_end taken BadHead)
answer_unwritten taken end (inr (inl e)) = subst (λ x. AnswerCut x taken taken) (sym e) (none_of_end taken BadFraming)
answer_unwritten taken end (inr (inr (inl e))) = subst (λ x. AnswerCut x taken taken) (sym e) (none_of_end taken OriginRefused)
answer_unwritten taken end (inr (inr (inr (inl e)))) = subst (λ x. AnswerCut x taken taken) (sym e) (none_of_end taken HeadTooLong)
answer_unwritten taken end (inr (inr (inr (inr e)))) = subst (λ x. AnswerCut x taken taken) (sym e) (none_of_end taken BodyTooLong)
