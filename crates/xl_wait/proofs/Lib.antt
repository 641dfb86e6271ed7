mod FileLaws
mod LineLaws
mod PassLaws
