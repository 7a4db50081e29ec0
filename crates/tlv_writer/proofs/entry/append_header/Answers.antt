use Rattle.std.proofs.Common.{◌≡◌, ◌-◌, ℕ, [], ◌∷◌, ◌++◌, length, ap, ◌∙◌, arith, length-append}
use Rattle.tlv.specs.Header.{short_type, short_id, short_length}
use Rattle.tlv_writer.specs.Write.{written}
use Rattle.tlv_writer.proofs.Writes.{written_next, id_bytes, length_bytes}
use Rattle.tlv_writer.proofs.entry.append_header.Goals as goal

pub returns-clause-writes : goal.returns-clause-writes
returns-clause-writes c =
    let old = c.args.out.now in
    let at = c.args.at in
    let x = short_id c.args.tag.id in
    let y = short_length c.args.len in
    let l = length-append x y in
    let e : c.in_ok-t.t ≡ short_type c.args.tag.kind c.args.tag.id c.args.len = grind arith in
    let k : c.if-tag-lt256.id_size ≡ length x = grind arith in
    let i = c.put_number-len_at.ensures.writes ∙ ap (written _ _) (id_bytes _ c.args.tag.id (omega arith) k) in
    let n = c.put_number.ensures.writes ∙ ap (written _ _) (length_bytes (c.in_ok-t.size - 1 - c.if-tag-lt256.id_size) c.args.len (grind arith) (grind arith)) in
    let m = written_next old _ _ (c.in_ok-t.t ∷ []) x at _ c.put-id_at.ensures.writes c.put-id_at.ensures.ends (grind arith) i in
    written_next old _ _ (c.in_ok-t.t ∷ x) y at _ m (omega arith) (grind arith) n ∙ ap (λ (t : ℕ). written old at (t ∷ (x ++ y))) e
