mod InPages
mod ManyPages
mod Witnesses
