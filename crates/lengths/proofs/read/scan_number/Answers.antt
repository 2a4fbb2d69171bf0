use Rattle.std.proofs.Common.{arith, ◌≡◌, ◌≤◌}
use Rattle.rules.specs.Numbers.{number_of}
use Rattle.lengths.proofs.Scans.{IsCut, scan_none, scan_some, whole_pass, fraction_pass, large_value, put_together}
use Rattle.lengths.proofs.read.scan_number.Goals.{After-split_decimals}
use Rattle.lengths.proofs.read.scan_number.Goals as goal

cut : (c : After-split_decimals) → IsCut c.args.bytes.now c.split_sign-negative.result.0 c.split_sign-negative.result.1.now c.split_digits.result.0.now c.split_digits.result.1.now c.split_decimals.result.0.now c.split_decimals.result.1.now
cut c = record {
  sign = c.split_sign-negative.ensures.sign;
  body_is = c.split_sign-negative.ensures.rest;
  whole_is = c.split_digits.ensures.front;
  point_is = c.split_digits.ensures.rest;
  decimals_is = c.split_decimals.ensures.front;
  rest_is = c.split_decimals.ensures.rest;
}

pub returns-then-whole-decimals-eq0-clause-refused : goal.returns-then-whole-decimals-eq0-clause-refused
returns-then-whole-decimals-eq0-clause-refused c =
    scan_none c.args.bytes.now (cut (goal.at.returns-then-whole-decimals-eq0-clause-refused c).After-split_decimals) (omega arith)

pub overflow_sub-len : goal.overflow_sub-len
overflow_sub-len c =
    (scan_some c.args.bytes.now (cut (goal.at.overflow_sub-len c).After-split_decimals) (λ e. c.if-whole-decimals-eq0.false e)).0

pub capped-points-requires : goal.capped-points-requires
capped-points-requires c = whole_pass c.args.bytes.now (cut (goal.at.capped-points-requires c).After-split_decimals)

pub nine-requires : goal.nine-requires
nine-requires c = fraction_pass c.args.bytes.now (cut (goal.at.nine-requires c).After-split_decimals)

pub returns-then-points-eq-LEAST_LARGE-clause-refused : goal.returns-then-points-eq-LEAST_LARGE-clause-refused
returns-then-points-eq-LEAST_LARGE-clause-refused c =
    let large : 100_000 ≤ number_of c.split_digits.result.0.now = omega (arith, c.capped-points.ensures, c.if-points-eq-LEAST_LARGE.true) in
    let found = scan_some c.args.bytes.now (cut (goal.at.returns-then-points-eq-LEAST_LARGE-clause-refused c).After-split_decimals) (λ e. c.if-whole-decimals-eq0.false e) in
    (omega arith, _, large_value c.split_sign-negative.result.0 c.split_digits.result.0.now c.split_decimals.result.0.now large, found.1)

pub returns-clause-found : goal.returns-clause-found
returns-clause-found c =
    let points : c.capped-points.result ≡ number_of c.split_digits.result.0.now = omega (arith, c.capped-points.ensures, c.if-points-eq-LEAST_LARGE.false) in
    let found = scan_some c.args.bytes.now (cut (goal.at.returns-clause-found c).After-split_decimals) (λ e. c.if-whole-decimals-eq0.false e) in
    put_together c.args.bytes.now _ c.split_digits.result.0.now c.split_decimals.result.0.now c.split_sign-negative.result.0 _ _ _ found.1 points c.nine.ensures.value c.of_parts.ensures.value
