use Rattle.std.proofs.Common.{ap, ◌∙◌, sym, arith}
use Rattle.af_http.specs.Lines.{is_blank}
use Rattle.af_http.proofs.LineLemmas.{passed_more, found_end, extent_found, large_part, open_part}
use Rattle.af_http.proofs.ScanLemmas.{passed_there, passed_size}
use Rattle.af_http.proofs.lines.extent_of.Goals as goal

pub split_at-requires : goal.split_at-requires
split_at-requires c =
    let size = passed_size c.requires.scanned in
    omega (arith, size)

pub loop-n-init : goal.loop-n-init
loop-n-init c = rw c.split_at.ensures.back c.requires.scanned

pub overflow_add-end : goal.overflow_add-end
overflow_add-end c =
    let size = passed_size c.loop-n.invariant in
    omega (arith, size, c.in-Some.ensures.within)

pub overflow_add-count : goal.overflow_add-count
overflow_add-count c =
    let few = c.loop-n.invariant.few in
    let size = passed_size c.loop-n.invariant in
    omega (arith, few, size, c.in-Some.ensures.within)

pub returns-then-is_blank : goal.returns-then-is_blank
returns-then-is_blank c = record {
  extent =
      rw (c.sized.ensures) (
      extent_found _ _ _ _
      (found_end c.args.bytes.now c.loop-n.rest.now c.loop-n.at c.loop-n.lines c.in-Some.n c.loop-n.invariant c.in-Some.ensures.within.1 (ap is_blank (sym c.split_at-in-Some.ensures.front) ∙ sym c.if-is_blank.ensures) c.in-Some.ensures.line c.requires.plain)
      );
  scanned = passed_there c.loop-n.invariant;
}

pub loop-n-preserved : goal.loop-n-preserved
loop-n-preserved c =
    rw (c.split_at-in-Some.ensures.back) (
    passed_more _ _ _ _ c.in-Some.n c.loop-n.invariant c.in-Some.ensures.within.0 c.in-Some.ensures.within.1
    (ap is_blank (sym c.split_at-in-Some.ensures.front) ∙ sym c.if-is_blank.ensures) c.in-Some.ensures.line
    )

pub returns-then-bytes-gt-HEAD_LIMIT : goal.returns-then-bytes-gt-HEAD_LIMIT
returns-then-bytes-gt-HEAD_LIMIT c = record {
  extent = large_part _ _ _ _ c.loop-n.invariant c.in_default.ensures.none c.requires.plain c.if-bytes-gt-HEAD_LIMIT.true;
  scanned = passed_there c.loop-n.invariant;
}

pub returns : goal.returns
returns c = record {
  extent = (open_part _ _ _ _ c.loop-n.invariant c.in_default.ensures.none c.requires.plain c.if-bytes-gt-HEAD_LIMIT.false, c.if-bytes-gt-HEAD_LIMIT.false);
  scanned = passed_there c.loop-n.invariant;
}
