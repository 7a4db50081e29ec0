use Rattle.std.proofs.Common.{◌≡◌, ◌+◌, length, arith}
use Rattle.tlv.specs.Header.{short_header}
use Rattle.tlv_writer.proofs.Writes.{written_next}
use Rattle.tlv_writer.proofs.entry.append_entry.Goals as goal

pub returns-clause-writes : goal.returns-clause-writes
returns-clause-writes c =
    let v = c.args.value.now in
    let hd = short_header c.args.tag.kind c.args.tag.id (length v) in
    let e : c.in_ok-value_at.value_at ≡ c.args.at + length hd = grind arith in
    written_next c.args.out.now _ _ hd v c.args.at _ c.in_ok-value_at.ensures.writes e (grind arith) c.put.ensures.writes
