use Rattle.std.proofs.Common.{rules, [], ◌∷◌, ◌++◌, ◌∙◌, ap, map, sym, subst}
use Rattle.flat_list.specs.declared.command.Reply.{Reply}
use Rattle.sock_script.specs.Output.{Replies, listings_at}
use Rattle.sock_script.specs.Shown.{shown}
use Rattle.sock_script.specs.Steps.{item_shown, RunsCommand}
use Rattle.sock_script.proofs.Events.{ran_asked, ran_packets, same_replies, takes_none}
use Rattle.sock_script.proofs.run.run_command.Goals as goal

pub returns-in-Packets-clause-runs : goal.returns-in-Packets-clause-runs
returns-in-Packets-clause-runs c =
    let before = c.args.replies.now in
    let out : Replies = record { each = c.look_up.new.replies.items; listings = c.replies.inside.listings.items } in
    let next = c.split_at.result.0.now in
    subst (λ command. RunsCommand c.args.flat.now c.args.flat.now c.args.n command c.args.items.now c.split_at.result.1.now before out) (sym c.in-Packets.is)
    (ran_packets c.args.flat.now c.args.n c.in-Packets.count c.args.items.now next c.split_at.result.1.now before out (search rules) (search rules)
    (same_replies out (record before { each = before.each ++ map (item_shown c.args.flat.now) next })
    (c.in_ok-look_up.ensures ∙ ap (λ (r : Replies). r.each ++ map (item_shown c.args.flat.now) next) c.replies.view_is)
    (ap (λ (r : Replies). r.listings) c.replies.view_is)))

pub returns-clause-runs : goal.returns-clause-runs
returns-clause-runs c =
    let before = c.args.replies.now in
    let command = c.args.command.now in
    let out : Replies = record { each = c.push.new.self.items; listings = c.list.new.listings.items } in
    let done = c.in_ok-reply.ensures.step in
    ran_asked c.args.flat.now c.apply.new.self c.args.n command c.args.items.now c.in_ok-reply.reply before out
    (takes_none command c.in_default.not-Packets) (λ k. (sym done k).reply) (λ k. (sym done k).flat)
    (same_replies out (record { each = before.each ++ shown c.in_ok-reply.reply ∷ []; listings = before.listings ++ listings_at c.args.flat.now command })
    (c.in_ok-push.ensures.items ∙ ap (λ (r : Reply). c.replies.inside.each.items ++ r ∷ []) c.of.ensures
    ∙ ap (λ (r : Replies). r.each ++ shown c.in_ok-reply.reply ∷ []) c.replies.view_is)
    (c.in_ok-list.ensures ∙ ap (λ (r : Replies). r.listings ++ listings_at c.args.flat.now command) c.replies.view_is))
