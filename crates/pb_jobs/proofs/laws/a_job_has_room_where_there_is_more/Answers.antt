use Rattle.pb_jobs.proofs.RoomLemmas.{job_grows}
use Rattle.pb_jobs.proofs.laws.a_job_has_room_where_there_is_more.Goals as goal

pub returns : goal.returns
returns c = job_grows
