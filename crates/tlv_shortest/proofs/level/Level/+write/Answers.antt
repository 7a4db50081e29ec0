use Rattle.std.proofs.Common.{◌<◌, ℕ, ◌++◌, length, refl, subst, arith, length-append}
use Rattle.tlv.specs.Header.{short_header}
use Rattle.tlv_writer.specs.Write.{encoded}
use Rattle.tlv_shortest.specs.Levels.{form_of}
use Rattle.tlv_shortest.proofs.Turns.{Moved, moved, moved_on, appended, plain_bytes, holder_bytes}
use Rattle.tlv_shortest.proofs.level.Level.+write.Goals as goal
use Rattle.tlv_shortest.proofs.level.Level.+write.Goals.{After-unwrap-inner_at}

-- the header of an entry that holds entries is written, and what it holds and the rest are not
headed : (t : ℕ) (c : goal.After-unwrap-inner_at t)
    → Moved c.loop-item.out c.loop-item.to (form_of c.loop-item.item-iterator) c.append_header.new.out c.unwrap-inner_at.result
    (form_of c.in-Holder.inner ++ form_of c.next.new.self)
headed t c =
    let i = c.loop-item.invariant in
    appended _ _ _ _ _ c.append_header.result (short_header c.in-Holder.tag.kind c.in-Holder.tag.id c.form_len.result) _ _
    (holder_bytes _ _ _ _ _ _ c.in-Some.ensures.steps c.in-Holder.is c.form_len.ensures) (omega arith)
    c.append_header.ensures.answers c.append_header.ensures.writes c.unwrap-inner_at.ensures

pub write-to-requires : goal.write-to-requires
write-to-requires t c =
    let m = headed t (goal.at.write-to-requires t c).After-unwrap-inner_at in
    let l = length-append (form_of c.in-Holder.inner) (form_of c.next.new.self) in
    let k : c.loop-item.to < c.unwrap-inner_at.result = grind arith in
    (subst (λ (k : ℕ). length (form_of c.in-Holder.inner) < k) c.decreases (omega arith), omega arith)

pub loop-item-preserved-in-Plain : goal.loop-item-preserved-in-Plain
loop-item-preserved-in-Plain t c =
    moved_on c.loop-item.invariant
    (appended _ _ _ _ _ c.append_entry.result (encoded c.in-Plain.tag.kind c.in-Plain.tag.id c.in-Plain.value.now) _ _
    (plain_bytes _ _ _ _ _ c.in-Some.ensures.steps c.in-Plain.is) (omega arith)
    c.append_entry.ensures.answers c.append_entry.ensures.writes c.unwrap-to.ensures)

pub loop-item-preserved : goal.loop-item-preserved
loop-item-preserved t c =
    let m = headed t (goal.at.loop-item-preserved t c).After-unwrap-inner_at in
    moved_on (moved_on c.loop-item.invariant m)
    (moved _ _ _ _ (form_of c.in-Holder.inner) _ _ refl (omega arith) c.write-to.ensures.writes c.write-to.ensures.ends)
