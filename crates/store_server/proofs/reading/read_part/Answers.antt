use Rattle.std.proofs.Common.{◌≤◌, ◌+◌, ◌<◌, [], length, take, subst, arith, length-take-le}
use Rattle.std.specs.Io.BufRead.{FillKeeps}
use Rattle.std.specs.Io.KnownBytes.{Consumes}
use Rattle.std.proofs.BufReadLemmas.{Consumes_shown}
use Rattle.std.proofs.KnownBytes.{Consumes-kept, Consumes-nil}
use Rattle.store_server.proofs.LinesRead.{feed_taken, much_more, no_feed, none_more, part_fed, part_more}
use Rattle.store_server.proofs.reading.read_part.Goals as goal

pub returns-then-eq : goal.returns-then-eq
returns-then-eq g c = none_more _ _ c.args.line.now.items (Consumes-kept _ _ _ [] (Consumes-nil _) c.fill_buf.follows.holds-at-none.0)

pub returns-then-len-ge-LINE_LIMIT : goal.returns-then-len-ge-LINE_LIMIT
returns-then-len-ge-LINE_LIMIT g c =
    let rested = c.fill_buf.follows.lender-at-none in
    let filled = subst (FillKeeps _ (g.R.Read.remaining rested) (g.R.BufRead.consumable_len rested)) c.in-Ok.is c.fill_buf.follows.holds-at-none in
    let ready = c.in-Ok.ready.now in
    let len = c.open_len-len in
    let moved = Consumes_shown _ _ _ _ ready len.result len.ensures.bound c.in-Ok.ensures.front c.in-Ok.ensures.end filled.0 filled.1 c.consume.ensures.bytes in
    much_more _ _ c.args.line.now.items (take len.result ready) (no_feed _ len.ensures.before) moved.0
    (omega (arith, c.if-len-ge-LINE_LIMIT.true, c.len.ensures, c.args.line.now.ok.0, length-take-le len.result ready len.ensures.bound))

pub returns-then-len-ready : goal.returns-then-len-ready
returns-then-len-ready g c =
    let rested = c.fill_buf.follows.lender-at-none in
    let filled = subst (FillKeeps _ (g.R.Read.remaining rested) (g.R.BufRead.consumable_len rested)) c.in-Ok.is c.fill_buf.follows.holds-at-none in
    let ready = c.in-Ok.ready.now in
    let len = c.open_len-len in
    let before : len.result < length ready = omega (arith, c.if-len-ready.true) in
    let behind : len.result + 1 ≤ length ready = omega (arith, before) in
    let moved = Consumes_shown _ _ _ _ ready (len.result + 1) behind c.in-Ok.ensures.front c.in-Ok.ensures.end filled.0 filled.1 c.consume-then-len-ready.ensures.bytes in
    part_fed _ _ c.args.line.now.items c.extend_from_slice.new.self.items (take len.result ready) (no_feed _ len.ensures.before) c.in_ok-extend_from_slice.ensures.items
    (omega (arith, c.if-len-ge-LINE_LIMIT.false, c.len.ensures, c.args.line.now.ok.0, length-take-le len.result ready len.ensures.bound))
    (subst (Consumes _ _) (feed_taken ready len.result before (len.ensures.feed before)) moved.0)

pub returns-else-len-eq0 : goal.returns-else-len-eq0
returns-else-len-eq0 g c =
    let rested = c.fill_buf.follows.lender-at-none in
    let filled = subst (FillKeeps _ (g.R.Read.remaining rested) (g.R.BufRead.consumable_len rested)) c.in-Ok.is c.fill_buf.follows.holds-at-none in
    let ready = c.in-Ok.ready.now in
    let len = c.open_len-len in
    let moved = Consumes_shown _ _ _ _ ready len.result len.ensures.bound c.in-Ok.ensures.front c.in-Ok.ensures.end filled.0 filled.1 c.consume-2.ensures.bytes in
    part_more _ _ c.args.line.now.items c.extend_from_slice.new.self.items (take len.result ready) (no_feed _ len.ensures.before) c.in_ok-extend_from_slice.ensures.items
    (omega (arith, c.if-len-ge-LINE_LIMIT.false, c.len.ensures, c.args.line.now.ok.0, length-take-le len.result ready len.ensures.bound))
    moved.0
