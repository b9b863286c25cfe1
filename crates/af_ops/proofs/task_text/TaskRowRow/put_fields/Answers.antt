use Rattle.af_ops.proofs.task_text.TaskRowRow.put_fields.Goals as goal

pub returns : goal.returns
returns c = rw (← c.self.view_is) c.put_task.ensures
