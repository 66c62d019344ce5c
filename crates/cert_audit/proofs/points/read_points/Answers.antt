use Rattle.std.proofs.Common.{◌≡◌, ◌∙◌, ℕ, suc, ◌+◌, ◌-◌, ◌*◌, List, [], ◌∷◌, ◌++◌, length, drop, Err, sym, ap, subst, arith, length-drop}
use Rattle.std.specs.Prelude.{All}
use Rattle.std.proofs.lemmas.List.Elements.{All-push}
use Rattle.byte_format.specs.Format.{Format, Entry}
use Rattle.shamir_limbs.specs.declared.share.Point.{Point}
use Rattle.cert_audit.specs.declared.fault.CertFault.{CertFault}
use Rattle.cert_audit.specs.declared.kind.CertKind.{CertKind}
use Rattle.cert_audit.specs.Certificate.{points_layout, entries_of_point, point_entries}
use Rattle.byte_format.specs.Reading.{read}
use Rattle.cert_audit.specs.Reading.{certs, Answer}
use Rattle.cert_audit.proofs.Steps.{points_next, points_more, points_all, drop-behind}
use Rattle.cert_audit.proofs.Whole.{at_exit}
use Rattle.cert_audit.proofs.points.read_points.Goals as goal

-- the fault of so many points that are read at this place
abbrev FaultOf : ℕ → ℕ → List ℕ → CertFault → Type 0
FaultOf n at bytes e = (next : Format CertKind) (before : List Entry) → read certs (points_layout n 0 next) at before bytes ≡ Err e

pub returns-in_err-four-clause-fault : goal.returns-in_err-four-clause-fault
returns-in_err-four-clause-fault c =
    let n : ℕ = c.args.n in
    let i : ℕ = c.loop-i.i in
    let at : ℕ = c.args.at in
    let points : List Point = c.loop-i.points.items in
    at_exit (FaultOf n at c.args.bytes.now) c.from_residual.result c.in_err-four.field-0.0 c.from_residual.ensures.1 (λ next before.
    points_next n i c.loop-i.above at next before points c.loop-i.rest.now
    (read certs (points_layout n 0 next) at before c.args.bytes.now) c.loop-i-test.true (c.loop-i.invariant.walk next before)
    ∙ ap (λ (a : ℕ). read certs (points_layout (suc (n - (i + 1))) a next) (at + 32 * i) (before ++ point_entries points) c.loop-i.rest.now)
    (sym c.value.ensures.same)
    ∙ c.in_err-four.ensures.fault (n - (i + 1)) next (before ++ point_entries points))

pub loop-i-preserved : goal.loop-i-preserved
loop-i-preserved c =
    let n : ℕ = c.args.n in
    let i : ℕ = c.loop-i.i in
    let at : ℕ = c.args.at in
    let points : List Point = c.loop-i.points.items in
    let p : Point = c.point_of-point.result in
    let behind : List ℕ = c.in_ok-four.behind.now in
    let inv = c.loop-i.invariant in
    let items : c.push_reserved.new.self.items ≡ points ++ p ∷ [] = c.push_reserved.ensures.items in
    record {
      walk = λ next before.
          let start : Answer = read certs (points_layout n 0 next) at before c.args.bytes.now in
          let here : List Entry = before ++ point_entries points in
          points_more n i at next before points p behind start
          (points_next n i c.loop-i.above at next before points c.loop-i.rest.now start c.loop-i-test.true (inv.walk next before)
          ∙ ap (λ (a : ℕ). read certs (points_layout (suc (n - (i + 1))) a next) (at + 32 * i) here c.loop-i.rest.now)
          (sym c.value.ensures.same)
          ∙ c.in_ok-four.ensures.ok (n - (i + 1)) next here
          ∙ ap (λ (q : Point). read certs (points_layout (n - (i + 1)) q.x next) (at + 32 * i + 32) (here ++ entries_of_point q) behind)
          (sym c.point_of-point.ensures))
          ∙ ap (λ (ps : List Point). read certs (points_layout (n - (i + 1)) p.x next) (at + 32 * (i + 1))
          (before ++ point_entries ps) behind) (sym items);
      many = omega (arith, c.push_reserved.ensures.len, inv.many);
      capacity = c.push_reserved.ensures.capacity ∙ inv.capacity;
      three = subst (All (λ q. length q.y ≡ 3)) (sym items)
          (All-push (λ (q : Point). length q.y ≡ 3) points p inv.three (ap (λ (q : Point). length q.y) c.point_of-point.ensures));
      rest = drop-behind (32 * i) 32 c.args.bytes.now c.loop-i.rest.now behind inv.rest c.in_ok-four.ensures.rest
          ∙ ap (λ (m : ℕ). drop m c.args.bytes.now) (omega arith);
      long = omega (arith, c.in_ok-four.ensures.long, ap length inv.rest, length-drop (32 * i) c.args.bytes.now, inv.long);
    }

pub returns-clause-ok : goal.returns-clause-ok
returns-clause-ok c next before =
    let n : ℕ = c.args.n in
    let i : ℕ = c.loop-i.i in
    let inv = c.loop-i.invariant in
    let all : i ≡ n = omega arith in
    points_all n i c.loop-i.above c.args.at next before c.loop-i.points.items c.loop-i.rest.now
    (read certs (points_layout n 0 next) c.args.at before c.args.bytes.now) all (inv.walk next before)
    ∙ ap (λ (b : List ℕ). read certs next (c.args.at + 32 * n) (before ++ point_entries c.loop-i.points.items) b)
    (inv.rest ∙ ap (λ (m : ℕ). drop (32 * m) c.args.bytes.now) all)
