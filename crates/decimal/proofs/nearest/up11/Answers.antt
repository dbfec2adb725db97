-- `decimal::nearest::up11` meets its contract: each branch's test is one that `up11` makes. Assumes nothing.
use Prim.Native.Nat.{◌%◌}
use borrow.Author.Tests.{lt-ltb, le-ltb}
use Rattle.real.proofs.Pack.{up11}
use Rattle.decimal.proofs.nearest.up11.Goals as goal

pub returns-then-rest-gt1024 : goal.returns-then-rest-gt1024
unfolding up11
returns-then-rest-gt1024 c = let m = c.args.m in rw (lt-ltb 1024 (m % 2048) c.if-rest-gt1024.true)

pub returns-then-rest-lt1024 : goal.returns-then-rest-lt1024
unfolding up11
returns-then-rest-lt1024 c = let m = c.args.m in rw (le-ltb 1024 (m % 2048) c.if-rest-gt1024.false, lt-ltb (m % 2048) 1024 c.if-rest-lt1024.true)

pub returns-then-sticky : goal.returns-then-sticky
unfolding up11
returns-then-sticky c = let m = c.args.m in rw (le-ltb 1024 (m % 2048) c.if-rest-gt1024.false, le-ltb (m % 2048) 1024 c.if-rest-lt1024.false, c.if-sticky.true)

pub returns-else-sticky : goal.returns-else-sticky
unfolding up11
returns-else-sticky c = let m = c.args.m in rw (le-ltb 1024 (m % 2048) c.if-rest-gt1024.false, le-ltb (m % 2048) 1024 c.if-rest-lt1024.false, c.if-sticky.false)
