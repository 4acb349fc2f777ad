use Rattle.std.proofs.Common.{◌≡◌, ◌<◌, ◌%◌, suc, length, slice_index, ap, ◌∙◌, arith}
use Rattle.hash_index.proofs.Newest.{chained_add, length_set, index_any}
use Rattle.hash_index.proofs.index.HashIndex.add.Goals as goal

pub invariant_of-self : goal.invariant_of-self
invariant_of-self c =
    let i = c.self.inside in
    let room = c.self.invariant.1 in
    let more = c.requires in
    let some : 0 < i.room = omega (arith, more, ap (λ view. view.room) c.self.view_is) in
    let heads : 0 < length i.heads.items = room.heads (omega (arith, some)) in
    let bucket : c.bucket_of-bucket.result ≡ c.args.hash % length i.heads.items =
    c.bucket_of-bucket.ensures ∙ ap (λ n. c.args.hash % n) (omega (arith, c.len.ensures, i.heads.ok)) in
    let number : c.len-2.result ≡ suc (length i.hashes.items) = omega (arith, c.len-2.ensures, c.push_reserved-2.ensures.len, i.hashes.ok) in
    let last : c.index.result.now ≡ slice_index i.heads.items c.bucket_of-bucket.result =
    c.index.ensures ∙ index_any i.heads.items c.bucket_of-bucket.result c.index.result.now 0 (omega (arith, bucket, heads)) in
    let same = length_set i.heads.items c.bucket_of-bucket.result c.len-2.result in (
      rw (c.push_reserved-2.ensures.items, c.push_reserved.ensures.items, last)
          (chained_add i.hashes.items i.nexts.items i.heads.items c.args.hash c.bucket_of-bucket.result c.len-2.result c.self.invariant.0 heads bucket number),
      record {
        hashes = omega (arith, some, room.hashes, c.push_reserved-2.ensures.len, c.push_reserved-2.ensures.capacity);
        nexts = omega (arith, some, room.nexts, c.push_reserved.ensures.len, c.push_reserved.ensures.capacity);
        heads = λ l. omega (arith, heads, same);
        few = omega (arith, some, room.few, c.push_reserved-2.ensures.len);
      },
    )
