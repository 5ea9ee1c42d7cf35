use Rattle.std.proofs.Common.{arith}
use Rattle.re_compact.proofs.Fronts.{front_cut, front_out, front_numbered}
use Rattle.re_compact.proofs.heads.head_of.Goals as goal
use Rattle.re_compact.proofs.heads.head_of.Goals.{then-generation-lt1-via-then-generation-lt1, then-generation-lt1-via-else-generation-lt1+then-generation}

pub returns-then-front-lt13-clause-head : goal.returns-then-front-lt13-clause-head
returns-then-front-lt13-clause-head c = λ file is.
    front_cut c.from_be_bytes-length.result c.args.front.now file is (λ i. omega (arith, c.type_inv.front i)) c.if-front-ne1.false c.if-front-lt5.false c.from_be_bytes-length.ensures (c.if-length-lt8.false, c.if-length-gt131072.false) c.if-front-lt13.true

pub returns-then-generation-lt1-clause-head : goal.returns-then-generation-lt1-clause-head
returns-then-generation-lt1-clause-head c = λ file is.
    front_out c.from_be_bytes-length.result c.from_be_bytes-generation.result c.args.front.now file is (λ i. omega (arith, c.type_inv.front i)) c.if-front-ne1.false c.if-front-lt13.false c.from_be_bytes-length.ensures (c.if-length-lt8.false, c.if-length-gt131072.false) c.from_be_bytes-generation.ensures
    (λ fits. elim c.then-generation-lt1.branch [ then-generation-lt1-via-then-generation-lt1 w ↦ omega (arith, fits.0) | then-generation-lt1-via-else-generation-lt1+then-generation w ↦ omega (arith, fits.1) ])

pub returns-clause-head : goal.returns-clause-head
returns-clause-head c = λ file is.
    front_numbered c.from_be_bytes-length.result c.from_be_bytes-generation.result c.args.front.now file is (λ i. omega (arith, c.type_inv.front i)) c.if-front-ne1.false c.if-front-lt13.false c.from_be_bytes-length.ensures (c.if-length-lt8.false, c.if-length-gt131072.false) c.from_be_bytes-generation.ensures
    (c.if-generation-lt1.false, c.if-generation.false)
