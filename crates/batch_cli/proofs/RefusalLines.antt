-- The text that answers a line that is not a valid request.
use Rattle.std.proofs.Common.{◌≡◌, refl}
use Rattle.bt_rows.specs.declared.refusal.Refusal.{Refusal}
use Rattle.bt_rows.specs.declared.reply.Reply.TheVariants.{Refused}
use Rattle.wire_texts.specs.Replies.{reply_text}
use Rattle.wire_texts.specs.Refusals.{refusal_text}

-- a refusal as a reply is shown as a refusal
pub refusal_reply : (refusal : Refusal) → reply_text (Refused refusal) ≡ refusal_text refusal
unfolding reply_text
refusal_reply refusal = refl
