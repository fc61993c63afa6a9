-- `put_class` meets its contract.
use native.Mathlib.Omega.{arith}
use lib.ListN.{take, drop, length-drop}
use lib.Seq.{length-take-le}
use Rattle.writer.specs.Store.{put-of, put_byte, put-append}
use Rattle.writer.proofs.put_class.Goals as goal

pub returns : goal.returns
returns c =
    let a = c.args in
    let d = length-drop a.from a.bytes.now in
    let n = length-take-le a.n (drop a.from a.bytes.now) (omega arith) in
    put-append (put_byte 76 a.out.now a.at) (put-append {xs = take a.n (drop a.from a.bytes.now)} (put-of n c.put_bytes.ensures) (put_byte 59 _ _))
