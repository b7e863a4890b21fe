use Rattle.std.proofs.Common.{◌+◌, ◌*◌, ◌<◌, length, arith}
use Rattle.hex_text.proofs.Hexes.{put_more}
use Rattle.hex_text.proofs.text.put.Goals as goal

pub loop-i-preserved : goal.loop-i-preserved
loop-i-preserved c =
    let i = c.loop-i.i in
    let h : i < length c.args.octets.now = omega arith in
    let l : 2 * i + 1 < length c.loop-i.out = omega arith in
    put_more c.args.octets.now c.loop-i.out c.args.out.now i c.digit.result c.digit-in-loop-i.result h l c.digit.ensures c.digit-in-loop-i.ensures c.loop-i.invariant.0 c.loop-i.invariant.1
