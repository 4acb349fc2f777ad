use Rattle.std.proofs.Common.{◌≡◌, Some, option_map, sym, ap, ◌∙◌}
use Rattle.serde_json.specs.View.{view}
use Rattle.wire_json.specs.Replies.{reply_data}
use Rattle.wire_json.proofs.NoFloats.{in_reply}
use Rattle.wire_json.proofs.reply.reply_json.Goals as goal

pub value_text-requires : goal.value_text-requires
value_text-requires c =
    let told = c.in_ok-reply_value.ensures in
    let value = c.in-Some.value in
    let shown : Some (view value) ≡ reply_data c.args.reply.now = sym (ap (option_map view) c.in-Some.is) ∙ told in
    in_reply c.args.reply.now (view value) shown
