-- Input that ends inside the target of a request.
use Rattle.std.proofs.Common.{◌≡◌, ◌+◌, ◌<◌, ◌⊎◌, ℕ, List, [], ◌∷◌, ◌++◌, length, sym, ap, ◌∙◌, subst, arith, inl, inr, append_assoc}
use Rattle.std.proofs.lemmas.List.{length-append}
use Rattle.httparse.specs.Grammar.{print_blank, HasNoRequest, EndsInTarget}
use Rattle.http_head.specs.declared.heads.TheConstants.{HEAD_LIMIT}
use Rattle.http_head.specs.Heads.{HasManyFields, IsOpen}
use Rattle.http_head.specs.Lines.{lines_ended}
use Rattle.http_head.proofs.FewLines.{lines_grow, most_of, head_is, few_lines}
use Rattle.http_head.proofs.FieldCounts.{target_lines}
use Rattle.http_head.proofs.LineCounts.{many_lines_of}
use Rattle.http_serving.specs.declared.end.End.{End}
use Rattle.http_serving.specs.declared.end.End.TheVariants.{Truncated}
use Rattle.http_serving.specs.Reading.{AllowsEnd, IsFault}
use Rattle.http_laws.proofs.Agreeing.{short_front, ends_agree_all}
use Rattle.http_laws.specs.Ends.{Agree}
use Rattle.http_laws.specs.Targets.{TargetsAreTruncated}

-- no line ends inside a target, and every head has one at least
no_head : (bytes : List ℕ) → EndsInTarget bytes → HasNoRequest bytes
no_head bytes target h rest reads =
    let front = most_of h in
    let whole : bytes ≡ front ++ (10 ∷ rest) = reads.1 ∙ ap (λ w. w ++ rest) (head_is h) ∙ append_assoc front (10 ∷ []) rest in
    absurd (omega (arith, target_lines bytes target, few_lines rest reads, lines_grow front (10 ∷ rest), ap lines_ended whole))

no_fields : (bytes : List ℕ) → EndsInTarget bytes → ¬ HasManyFields bytes
no_fields bytes target many =
    let lines = many_lines_of many in
    omega (arith, target_lines bytes target, lines.many, lines_grow lines.front lines.rest, ap lines_ended lines.cut)

is_open : (bytes : List ℕ) → EndsInTarget bytes → length bytes < HEAD_LIMIT → IsOpen bytes
is_open bytes target less = record {
  short = less;
  no_head = no_head bytes target;
  may_become = inr target;
  few = no_fields bytes target;
}

some_bytes : (bytes : List ℕ) → EndsInTarget bytes → 0 < length bytes
some_bytes bytes (blank, method, target, token, uri, cut) =
    omega (arith, ap length cut, length-append (print_blank blank ++ method) (32 ∷ target))

truncated : (bytes : List ℕ) → EndsInTarget bytes → length bytes < HEAD_LIMIT → (end : End) → Agree bytes Truncated end → (end ≡ Truncated) ⊎ IsFault end
truncated bytes target less end (inl same) = inl (sym same)
truncated bytes target less end (inr (inl (inl fault))) = absurd fault
truncated bytes target less end (inr (inl (inr fault))) = inr fault
truncated bytes target less end (inr (inr doubt)) = absurd (doubt.0.1 (subst EndsInTarget (sym (short_front bytes less)) target))

pub targets_are_truncated : TargetsAreTruncated
targets_are_truncated bytes target less =
    let allowed : AllowsEnd bytes Truncated = inl (some_bytes bytes target, is_open bytes target less) in
    (allowed, (λ end s. truncated bytes target less end (ends_agree_all bytes Truncated end allowed s)))
