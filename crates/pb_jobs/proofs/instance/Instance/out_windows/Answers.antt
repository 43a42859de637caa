use Rattle.std.proofs.Common.{◌∙◌, ◌<◌, ap, length, subst, sym}
use Rattle.pb_jobs.specs.Instances.{InstanceValue, of_sizes}
use Rattle.pb_jobs.specs.Shown.{AreWindows, WindowsValue}
use Rattle.pb_jobs.proofs.InstanceLemmas.{windows_below, windows_of}
use Rattle.pb_jobs.proofs.ListLemmas.{item_at}
use Rattle.pb_jobs.proofs.instance.Instance.out_windows.Goals as goal

pub bounds-self-inside-k : goal.bounds-self-inside-k
bounds-self-inside-k c = subst (λ (v : InstanceValue). c.args.k < length v.windows) (sym c.self.view_is) (windows_below c.args.self.now c.requires.ready c.args.k c.requires.below)

pub returns : goal.returns
returns c = λ r there.
    let at = item_at c.self.inside.windows.now c.args.self.now.windows c.args.k c.index-self-k.result (ap (λ (v : InstanceValue). v.windows) c.self.view_is) (windows_below c.args.self.now c.requires.ready c.args.k c.requires.below) c.index-self-k.is in
    subst (AreWindows (of_sizes c.args.self.now) r.outs) (sym (c.deref.ensures.value ∙ ap (λ (w : WindowsValue). w.outs) (c.windows.view_is ∙ sym c.index-self-k.is))) (windows_of c.args.self.now c.requires.ready c.args.k r there c.index-self-k.result at).outs
