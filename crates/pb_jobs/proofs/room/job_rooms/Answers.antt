use Rattle.std.proofs.Common.{subst, sym, [], arith}
use Rattle.std.specs.List.{All}
use Rattle.std.proofs.lemmas.List.Elements.{All-cons, All-nil}
use Rattle.pb_linear.specs.Sizes.{sizes_of}
use Rattle.pb_program.specs.Trees.{bare_prog}
use Rattle.pb_jobs.specs.Rooms.{HasNeed, HasRoomFor, HasRoomForJob, HaveNeeds, rules_by}
use Rattle.pb_jobs.proofs.RoomLemmas.{room_grows}
use Rattle.pb_jobs.proofs.room.job_rooms.Goals as goal

pub rules_rooms-requires-clause-needs : goal.rules_rooms-requires-clause-needs
rules_rooms-requires-clause-needs c =
    subst (λ r. All (HasNeed (bare_prog c.args.p.now) c.args.t (sizes_of c.args.s.now)) (rules_by r c.job.inside.rules.now)) c.in-None.is
    (subst (HaveNeeds (bare_prog c.args.p.now) c.args.t (sizes_of c.args.s.now)) (sym c.job.view_is) c.requires.needs)

pub rule_rooms-requires-clause-need : goal.rule_rooms-requires-clause-need
rule_rooms-requires-clause-need c =
    subst (λ r. All (HasNeed (bare_prog c.args.p.now) c.args.t (sizes_of c.args.s.now)) (rules_by r c.job.inside.rules.now)) c.in-Some.is
    (subst (HaveNeeds (bare_prog c.args.p.now) c.args.t (sizes_of c.args.s.now)) (sym c.job.view_is) c.requires.needs) 0 0 (omega arith)

pub returns-in-None : goal.returns-in-None
returns-in-None c =
    subst (HasRoomForJob (bare_prog c.args.p.now) c.args.t (sizes_of c.args.s.now) c.rules_rooms.result) c.job.view_is (record {
      rules = subst (λ r. All (HasRoomFor (bare_prog c.args.p.now) c.args.t (sizes_of c.args.s.now) c.rules_rooms.result) (rules_by r c.job.inside.rules.now)) (sym c.in-None.is) c.rules_rooms.ensures.room;
      pieces = omega (arith, c.rules_rooms.ensures.grows.pieces);
    })

pub returns-in-Some : goal.returns-in-Some
returns-in-Some c =
    let Enough = HasRoomFor (bare_prog c.args.p.now) c.args.t (sizes_of c.args.s.now) c.greater.result in
    subst (HasRoomForJob (bare_prog c.args.p.now) c.args.t (sizes_of c.args.s.now) c.greater.result) c.job.view_is (record {
      rules = subst (λ r. All (HasRoomFor (bare_prog c.args.p.now) c.args.t (sizes_of c.args.s.now) c.greater.result) (rules_by r c.job.inside.rules.now)) (sym c.in-Some.is)
          (All-cons Enough c.in-Some.rule [] (room_grows (bare_prog c.args.p.now) c.args.t (sizes_of c.args.s.now) c.rule_rooms.result c.greater.result c.in-Some.rule c.greater.ensures.second c.rule_rooms.ensures) (All-nil Enough));
      pieces = omega (arith, c.greater.ensures.first.pieces);
    })
